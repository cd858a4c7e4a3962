-- A board that is filled with a legal list, one event at a time.
use Rattle.std.proofs.Common.{◌≡◌, ℕ, ◌+◌, ◌<◌, ◌∙◌, sym, ap, List, [], ◌∷◌, ◌++◌, length, get_or, take, drop, true}
use Rattle.std.proofs.lemmas.List.{take-append-drop, take_more}
use Rattle.mx_types.specs.declared.event.Event.{Event}
use Rattle.mx_history.specs.History.{is_legal}
use Rattle.mx_history.proofs.LegalLaws.{prefix_is_legal}

-- with the next event the first ones are still legal
pub next_is_legal : (j : List Event) (i : ℕ) (d : Event) → is_legal j ≡ true → i < length j → is_legal (take i j ++ get_or j i d ∷ []) ≡ true
next_is_legal j i d h lt =
    prefix_is_legal (take i j ++ get_or j i d ∷ []) (drop (i + 1) j) (ap is_legal (ap (λ xs. xs ++ drop (i + 1) j) (sym (take_more j i d lt)) ∙ take-append-drop (i + 1) j) ∙ h)
