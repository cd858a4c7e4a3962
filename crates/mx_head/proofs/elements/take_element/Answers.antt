use Rattle.std.proofs.Common.{[], ◌∷◌, rules, sym, ap, ◌∙◌, add-one}
use Rattle.std.proofs.lemmas.List.{take_rest}
use Rattle.mx_head.proofs.ElementLemmas.{elements_at, elements_whole}
use Rattle.mx_head.proofs.elements.take_element.Goals as goal

pub returns-in-Some : goal.returns-in-Some
returns-in-Some c =
    let element = c.trim_ows-in-Some.ensures in
    elements_at c.args.value.now c.in-Some.comma (search rules) (search rules) (search rules) ∙ simp (take_rest, add-one, element)

pub returns-in-None : goal.returns-in-None
returns-in-None c = elements_whole c.args.value.now (search rules) ∙ ap (λ e. e ∷ []) (sym c.trim_ows.ensures)
