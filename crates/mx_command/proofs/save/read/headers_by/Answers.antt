use Rattle.std.proofs.Common.{◌≡◌, ◌<◌, ◌+◌, ◌++◌, ◌∷◌, [], Bor, List, length, map, take, suc, ℕ, arith, subst, sym}
use Rattle.mx_command.specs.Given.{AreHeadersBy}
use Rattle.mx_command.specs.declared.save.Header.{Header}
use Rattle.mx_command.proofs.Readings.{headers_at}
use Rattle.mx_command.proofs.save.read.headers_by.Goals as goal

pub loop-text-preserved : goal.loop-text-preserved
loop-text-preserved c =
    let i = c.loop-text.text-index in
    let texts = c.args.texts.now in
    let now : Bor (List ℕ) → List ℕ = λ t. t.now in
    let small : i < length texts = omega (arith, c.loop-text-test.true) in
    let next : suc i ≡ i + 1 = omega arith in
    let P : List Header → Type 0 = λ hs. AreHeadersBy (map now (take (i + 1) texts)) hs in
    let Q : ℕ → Type 0 = λ n. AreHeadersBy (map now (take n texts)) (c.loop-text.headers.items ++ c.in-Some.header ∷ []) in
    subst P (sym c.in_ok-push.ensures.items) (subst Q next (headers_at now texts i _ c.loop-text.headers.items c.in-Some.header small c.loop-text.invariant c.in-Some.ensures))
