use Rattle.mx_run_local.proofs.Words.{uncut_at, cut_at}
use Rattle.std.proofs.Common.{◌≡◌, ◌∙◌, sym, ap, ◌∷◌, take, drop, length, arith, ◌-◌, ◌+◌}
use Rattle.std.proofs.lemmas.List.{take_all, length-drop}
use Rattle.mx_run_local.specs.Script.{pieces}
use Rattle.mx_run_local.proofs.script.first_word.Goals as goal

pub returns-in-None : goal.returns-in-None
returns-in-None c = uncut_at 32 _ _ c.space_at.ensures c.in-None.is

pub returns-in-Some : goal.returns-in-Some
returns-in-Some c =
    let at = c.in-Some.at in
    let text = c.args.text.now in
    let all : take (length text - (at + 1)) (drop (at + 1) text) ≡ drop (at + 1) text =
    take_all (length text - (at + 1)) (drop (at + 1) text) (omega (arith, length-drop (at + 1) text)) in
    (cut_at 32 _ _ at c.space_at.ensures c.in-Some.is).0 ∙ ap (λ z. take at text ∷ pieces 32 z) (sym all)
