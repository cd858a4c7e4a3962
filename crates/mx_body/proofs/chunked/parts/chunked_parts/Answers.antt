use Rattle.std.proofs.Common.{◌≡◌, ◌+◌, ◌≤◌, ◌++◌, ◌∷◌, [], length, take, Option, Some, None, refl, sym, ap, ◌∙◌, arith}
use Rattle.std.specs.Prelude.{option_to_list, OnErr, Result, Ok, Err}
use Rattle.std.proofs.lemmas.List.{append-nil}
use Rattle.mx_body.specs.declared.part.Part.{Part}
use Rattle.mx_body.specs.ChunkedPlace.{parts_begun}
use Rattle.mx_body.specs.declared.chunked.place.ChunkedPlace.TheVariants.{Start}
use Rattle.mx_body.proofs.ChunkedRun.{place_after-nil, parts_begun-nil}
use Rattle.mx_body.proofs.ChunkedSteps.{further}
use Rattle.mx_body.proofs.ChunkedParts.{further_parts, has_room, all_parts, has_chunk}
use Rattle.mx_body.proofs.chunked.parts.chunked_parts.Goals as goal

pub loop-read-init : goal.loop-read-init
loop-read-init c = record {
  within = omega arith;
  place = place_after-nil 4294967295 Start;
  parts = c.new-parts.ensures.items ∙ sym (parts_begun-nil 4294967295 Start c.args.at);
}

pub begun-requires : goal.begun-requires
begun-requires c =
    let whole = c.requires.whole in
    let room = c.requires.room in
    let short : length c.args.input.now ≤ 4294967295 = omega arith in
    let here = further 4294967295 c.args.input.now c.loop-read.read c.advance-next.result.1 c.loop-read.place _ c.loop-read.invariant.place c.advance-next.ensures.place in
    omega (arith, has_room 4294967295 c.args.at c.args.input.now whole.0 whole.1 whole.2 short (c.loop-read.read + c.advance-next.result.1) c.advance-next.result.0 (omega arith) here)

pub loop-read-preserved-in_ok-push : goal.loop-read-preserved-in_ok-push
loop-read-preserved-in_ok-push c =
    let front = parts_begun 4294967295 Start c.args.at (take c.loop-read.read c.args.input.now) in
    let more = further_parts 4294967295 c.args.at c.args.input.now c.loop-read.read c.advance-next.result.1 c.loop-read.place c.advance-next.result.0 c.loop-read.invariant.within c.loop-read.invariant.place (c.advance-next.ensures.part (c.args.at + c.loop-read.read)) in
    record {
      within = omega arith;
      place = further 4294967295 c.args.input.now c.loop-read.read c.advance-next.result.1 c.loop-read.place _ c.loop-read.invariant.place c.advance-next.ensures.place;
      parts = c.in_ok-push.ensures.items ∙ ap (λ ps. ps ++ c.in-Some.part ∷ []) c.loop-read.invariant.parts
          ∙ ap (λ ps. front ++ ps) (ap option_to_list (sym c.in-Some.is) ∙ c.begun.ensures) ∙ sym more;
    }

pub loop-read-preserved : goal.loop-read-preserved
loop-read-preserved c =
    let front = parts_begun 4294967295 Start c.args.at (take c.loop-read.read c.args.input.now) in
    let more = further_parts 4294967295 c.args.at c.args.input.now c.loop-read.read c.advance-next.result.1 c.loop-read.place c.advance-next.result.0 c.loop-read.invariant.within c.loop-read.invariant.place (c.advance-next.ensures.part (c.args.at + c.loop-read.read)) in
    record {
      within = omega arith;
      place = further 4294967295 c.args.input.now c.loop-read.read c.advance-next.result.1 c.loop-read.place _ c.loop-read.invariant.place c.advance-next.ensures.place;
      parts = c.loop-read.invariant.parts ∙ sym (append-nil front)
          ∙ ap (λ ps. front ++ ps) (nothing c.begun.result c.in_default.not-Some ∙ c.begun.ensures) ∙ sym more;
    }
  where
    nothing : (o : Option Part) → ((p : Part) → ¬ (o ≡ Some p)) → [] ≡ option_to_list o
    nothing None not = refl
    nothing (Some p) not = absurd (not p refl)

pub returns-clause-parts : goal.returns-clause-parts
returns-clause-parts c = λ body is text.
    let room = c.requires.room in
    let short : length c.args.input.now ≤ 4294967295 = omega arith in
    c.loop-read.invariant.parts ∙ all_parts 4294967295 c.args.at c.args.input.now body is text short c.loop-read.read c.loop-read-test.false

pub returns-in_err-push-clause-memory : goal.returns-in_err-push-clause-memory
returns-in_err-push-clause-memory c = on_err c.from_residual.result (λ body is text.
    let room = c.requires.room in
    let short : length c.args.input.now ≤ 4294967295 = omega arith in
    let front = parts_begun 4294967295 Start c.args.at (take c.loop-read.read c.args.input.now) in
    let more = further_parts 4294967295 c.args.at c.args.input.now c.loop-read.read c.advance-next.result.1 c.loop-read.place c.advance-next.result.0 c.loop-read.invariant.within c.loop-read.invariant.place (c.advance-next.ensures.part (c.args.at + c.loop-read.read)) in
    has_chunk 4294967295 c.args.at c.args.input.now body is text short (c.loop-read.read + c.advance-next.result.1) front c.in-Some.part
    (more ∙ ap (λ ps. front ++ ps) (sym c.begun.ensures ∙ ap option_to_list c.in-Some.is)))
  where
    on_err : {A E : Type 0} {P : Type 0} (r : Result A E) → P → OnErr r P
    on_err (Ok x) p = tt
    on_err (Err e) p = p
