use Rattle.std.proofs.Common.{inl, inr, refl}
use Rattle.mx_embedded.proofs.LineLemmas.{contains_behind, contains_front, of_error, of_success}
use Rattle.mx_embedded.proofs.fields.put_fields.Goals as goal

pub loop-line-preserved : goal.loop-line-preserved
loop-line-preserved c = (
  search,
  (λ after more. c.loop-line.invariant.1 after (rw c.in-Some.ensures.lines (c.put_line.new.settings, c.in-Ok.ensures.put, more))),
  (λ line there. c.loop-line.invariant.2 line (contains_behind _ _ _ line c.in-Some.ensures.lines there)),
)

pub returns-in-Err-clause-refused : goal.returns-in-Err-clause-refused
returns-in-Err-clause-refused c = elim c.in-Err.ensures.refused [
  | inl memory ↦ inl memory
  | inr wrong ↦ inr (wrong.0, (_, c.loop-line.invariant.2 _ (contains_front _ _ _ c.in-Some.ensures.lines), wrong.1))
]

pub returns-clause-put : goal.returns-clause-put
returns-clause-put c = of_success _ _ c.put_line-2.result
    (λ done put. c.loop-line.invariant.1 c.put_line-2.new.settings (rw c.in_default.ensures.lines (c.put_line-2.new.settings, put, refl)))
    c.put_line-2.ensures.put

pub returns-clause-refused : goal.returns-clause-refused
returns-clause-refused c = of_error _ _ c.put_line-2.result
    (λ code says. elim says [
      | inl memory ↦ inl memory
      | inr wrong ↦ inr (wrong.0, (_, c.loop-line.invariant.2 _ (contains_front _ _ _ c.in_default.ensures.lines), wrong.1))
    ])
    c.put_line-2.ensures.refused
