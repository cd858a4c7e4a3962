use Rattle.std.proofs.Common.{◌∙◌, ap, ◌∷◌}
use Rattle.std.specs.Option.{option_copied}
use Rattle.mx_run_local.specs.Script.{words_behind}
use Rattle.mx_run_local.proofs.Words.{four_words}
use Rattle.mx_run_local.proofs.script.call_with.Goals as goal

pub returns-in-Some-words-2 : goal.returns-in-Some-words-2
returns-in-Some-words-2 c =
    let t = c.first_word.result.0.now in
    let k = c.first_word-2.result.0.now in
    let l = c.first_word-3.result.0.now in
    four_words c.args.name _ t k l c.in-Some-words-2.field-0.now
    (ap (λ o. words_behind (option_copied o)) c.in-Some.is ∙ c.first_word.ensures
    ∙ ap (λ o. t ∷ words_behind (option_copied o)) c.in-Some-words.is ∙ ap (λ z. t ∷ z) c.first_word-2.ensures
    ∙ ap (λ o. t ∷ k ∷ words_behind (option_copied o)) c.in_ok-words.was ∙ ap (λ z. t ∷ k ∷ z) c.first_word-3.ensures
    ∙ ap (λ o. t ∷ k ∷ l ∷ words_behind (option_copied o)) c.in-Some-words-2.is)
