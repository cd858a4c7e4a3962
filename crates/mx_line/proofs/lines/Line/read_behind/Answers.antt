use Rattle.std.proofs.Common.{arith, ℕ, ◌≡◌, ◌+◌, ◌-◌, ◌≤◌, ◌∷◌, [], ◌++◌, List, length, take, drop, refl, ap, sym, ◌∙◌, subst, length-take, length-drop}
use Rattle.mx_link.specs.declared.answers.Answer.TheVariants as said
use Rattle.mx_line.specs.Lines.{Grows}
use Rattle.mx_line.proofs.Placed.{piece_is, content_is}
use Rattle.mx_line.proofs.lines.Line.read_behind.Goals as goal

pub returns-then-pass-clause-passed : goal.returns-then-pass-clause-passed
returns-then-pass-clause-passed g c =
    let len = c.take_out-bytes.result.1 in
    let n = c.in-Bytes.n in
    let front = take len c.deref_mut.result.now in
    let front_is : front ≡ c.args.out.now.items = ap (λ (l : List ℕ). take len l) c.deref_mut.ensures.value ∙ c.take_out-bytes.ensures.content in
    let all : length front ≡ len = omega (arith, length-take len c.deref_mut.result.now, ap length c.deref_mut.ensures.value, c.take_out-bytes.ensures.within) in
    let fits : n ≤ length c.read-read.new.buffer = c.in-Bytes.ensures.within.1 in
    let room : len + n ≤ c.take_out-bytes.result.0.len =
    omega (arith, simp (length-take, length-drop) at c.read-read.ensures.room, fits, c.take_out-bytes.ensures.within, c.take_out-bytes.ensures.memory, c.requires.memory, ap length c.take_out-bytes.ensures.content, length-take len c.take_out-bytes.result.0.items, c.deref_mut.ensures.len, ap length c.deref_mut.ensures.value) in
    let counted : (len + n) - len ≡ n = omega arith in
    λ e. record {
      piece = take ((len + n) - len) (drop len c.deref.result.now);
      grows = subst (λ (l : List ℕ). Grows c.args.self.now c.read-read.new.self (said.Gave l ∷ []))
          (piece_is front c.read-read.new.buffer _ _ c.deref.result.now c.take_out-bytes.result.0.len len n ((len + n) - len) c.deref.ensures.value all fits room counted)
          c.in-Bytes.ensures.grows;
      more = c.if-pass.ensures.more refl;
      fed = c.if-pass.ensures.fed refl;
      exact = c.if-pass.ensures.exact;
      handed = c.if-pass.ensures.handed refl;
      behind = c.put_back-then-pass.ensures ∙ ap (λ (l : List ℕ). take (len + n) l) (sym c.deref.ensures.value)
          ∙ content_is front c.read-read.new.buffer _ _ c.deref.result.now c.take_out-bytes.result.0.len len n ((len + n) - len) c.deref.ensures.value all fits room counted
          ∙ ap (λ (l : List ℕ). l ++ take ((len + n) - len) (drop len c.deref.result.now)) front_is;
    }
