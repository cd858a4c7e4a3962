-- The beginning of a run.
use Rattle.std.proofs.Common.{◌≡◌, ◌∙◌, sym, suc, zero, List, [], ◌∷◌}
use Rattle.std.specs.Prelude.{All}
use Rattle.std.proofs.lemmas.List.Elements.{All-head, All-tail}
use Rattle.mx_save_book.specs.Books.{HasNoneAdded}
use Rattle.mx_save_book.specs.declared.job.Slot.{Slot}
use Rattle.mx_save_book.specs.declared.job.Slot.TheVariants as slot

-- where all slots are free, no transfer is added
pub none_added : (slots : List Slot) → All (λ s. s ≡ slot.Free) slots → HasNoneAdded slots
none_added [] free i job ticket number is = absurd (cc)
none_added (s ∷ ss) free zero job ticket number is =
    let same : s ≡ slot.Added job ticket number = cc in
    let bad : slot.Free ≡ slot.Added job ticket number = sym (All-head (λ t. t ≡ slot.Free) s ss free) ∙ same in absurd (cc)
none_added (s ∷ ss) free (suc i) job ticket number is = none_added ss (All-tail (λ t. t ≡ slot.Free) s ss free) i job ticket number is
