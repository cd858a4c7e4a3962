-- The calls that the folder refused are among those that it has refused later on.
use Rattle.std.proofs.Common.{◌≡◌, ◌∙◌, refl, ap, sym, subst, ℕ, List, [], ◌∷◌, ◌++◌, append_assoc, arith}
use Rattle.std.specs.Prelude.{Option, Some, None}
use Rattle.std.specs.List.{AllByRecursion, Contains}
use Rattle.std.proofs.lemmas.List.{append_cancel_right}
use Rattle.std.proofs.lemmas.List.Elements.{Contains-append_right}
use Rattle.mx_chain.specs.Outcomes.{OutcomeValue}
use Rattle.mx_folder.specs.Moments.{IsLater}
use Rattle.mx_folder.specs.Steps.{refused_calls}
use Rattle.mx_folder.specs.declared.errors.FolderError.{FolderError}
use Rattle.mx_folder.specs.declared.steps.Step.{Step}
use Rattle.mx_folder.specs.declared.steps.Step.TheVariants as steps
use Rattle.mx_save.specs.Ledgers.{LedgerValue}
use Rattle.mx_save.specs.Tries.{IsRefusedBy, refusal_of, removal_of, removed_by, taken_parts}
use Rattle.mx_save.specs.declared.error.SaveError.{SaveError}
use Rattle.mx_save_book.specs.Jobs.{HasRefused, told_refusals}

each_on : (P Q : Step → Type 0) → ((s : Step) → P s → Q s) → (xs : List Step) → AllByRecursion P xs → AllByRecursion Q xs
each_on P Q f [] all = tt
each_on P Q f (x ∷ xs) all = (f x all.0, each_on P Q f xs all.1)

among : (xs ys : List Step) → AllByRecursion (Contains (xs ++ ys)) xs
among [] ys = tt
among (x ∷ xs) ys =
    ((0, omega arith, refl), each_on (Contains (xs ++ ys)) (Contains (x ∷ (xs ++ ys))) (λ s c. Contains-append_right (x ∷ []) (xs ++ ys) s c) xs (among xs ys))

-- those that were refused later come before those that were refused earlier
refused_append : (more old : List Step) → refused_calls (more ++ old) ≡ refused_calls more ++ refused_calls old
refused_append [] old = refl
refused_append (steps.Created part ∷ more) old = refused_append more old
refused_append (steps.Placed part final bytes flushed ∷ more) old = refused_append more old
refused_append (steps.Removed part ∷ more) old = refused_append more old
refused_append (steps.Looked name found ∷ more) old = refused_append more old
refused_append (steps.FolderFlushed ∷ more) old = refused_append more old
refused_append (steps.Refused asked name why ∷ more) old = ap (λ l. steps.Refused asked name why ∷ l) (refused_append more old)

-- what was done since the run began
since_start : (old new : LedgerValue OutcomeValue) (before : IsLater old.start old.steps) → new.start ≡ old.start → (later : IsLater old.steps new.steps)
    → new.steps ≡ (later.0 ++ before.0) ++ new.start
since_start old new before start later =
    later.1 ∙ ap (λ l. later.0 ++ l) before.1 ∙ sym (append_assoc later.0 before.0 old.start) ∙ ap (λ l. (later.0 ++ before.0) ++ l) (sym start)

-- what was done since is what was refused since
pub refused_since : (old new : LedgerValue OutcomeValue) (told others : List Step) → IsLater old.start old.steps → new.start ≡ old.start → IsLater old.steps new.steps
    → refused_calls new.steps ≡ told ++ (others ++ refused_calls old.steps) → HasRefused new told
refused_since old new told others before start later by =
    let since = later.0 ++ before.0 in
    let more : refused_calls later.0 ≡ told ++ others =
    append_cancel_right (refused_calls later.0) (told ++ others) (refused_calls old.steps)
    (sym (refused_append later.0 old.steps) ∙ ap refused_calls (sym later.1) ∙ by ∙ sym (append_assoc told others (refused_calls old.steps))) in
    let all : refused_calls since ≡ told ++ (others ++ refused_calls before.0) =
    refused_append later.0 before.0 ∙ ap (λ l. l ++ refused_calls before.0) more ∙ append_assoc told others (refused_calls before.0) in
    record {
      since = since;
      steps = since_start old new before start later;
      each = subst (λ l. AllByRecursion (Contains l) told) (sym all) (among told (others ++ refused_calls before.0));
    }

-- those of a part that couldn't be made
pub calls_told : (old new : LedgerValue OutcomeValue) (why : SaveError) (part : Option (List ℕ)) (left : Option FolderError) → IsLater old.start old.steps → new.start ≡ old.start
    → IsLater old.steps new.steps → IsRefusedBy old new why part left → HasRefused new (told_refusals why part left)
calls_told old new why None left before start later by =
    record { since = later.0 ++ before.0; steps = since_start old new before start later; each = tt }
calls_told old new why (Some part) left before start later by =
    refused_since old new (removal_of part left ++ refusal_of part why) (taken_parts old.process old.number by.1.taken) before start later by.1.calls

-- those of a body that wasn't saved
pub calls_refused : (old new : LedgerValue OutcomeValue) (why : SaveError) (name : List ℕ) (left : Option FolderError) → IsLater old.start old.steps → new.start ≡ old.start
    → IsLater old.steps new.steps → refused_calls new.steps ≡ (removal_of name left ++ refusal_of name why) ++ refused_calls old.steps → HasRefused new (told_refusals why (Some name) left)
calls_refused old new why name left before start later by = refused_since old new (removal_of name left ++ refusal_of name why) [] before start later by

-- the removal of a part that is left
pub removal_refused : (old new : LedgerValue OutcomeValue) (part : List ℕ) (left : Option FolderError) (told : List Step) → IsLater old.start old.steps → new.start ≡ old.start
    → new.steps ≡ removed_by left part ∷ (told ++ old.steps) → HasRefused new (removal_of part left)
removal_refused old new part left told before start is = record {
  since = removed_by left part ∷ (told ++ before.0);
  steps = is ∙ ap (λ l. removed_by left part ∷ (told ++ l)) before.1 ∙ ap (λ l. removed_by left part ∷ l) (sym (append_assoc told before.0 old.start))
      ∙ ap (λ l. (removed_by left part ∷ (told ++ before.0)) ++ l) (sym start);
  each = removed left;
}
  where
    removed : (answer : Option FolderError) → AllByRecursion (Contains (refused_calls (removed_by answer part ∷ (told ++ before.0)))) (removal_of part answer)
    removed None = tt
    removed (Some why) = ((0, omega arith, refl), tt)

-- what was refused was refused, once more was done
pub calls_later : (told : List Step) (old new : LedgerValue OutcomeValue) → new.start ≡ old.start → IsLater old.steps new.steps → HasRefused old told → HasRefused new told
calls_later told old new start later h = record {
  since = later.0 ++ h.since;
  steps = later.1 ∙ ap (λ l. later.0 ++ l) h.steps ∙ sym (append_assoc later.0 h.since old.start) ∙ ap (λ l. (later.0 ++ h.since) ++ l) (sym start);
  each = each_on (Contains (refused_calls h.since)) (Contains (refused_calls (later.0 ++ h.since)))
      (λ s c. subst (λ l. Contains l s) (sym (refused_append later.0 h.since)) (Contains-append_right (refused_calls later.0) (refused_calls h.since) s c)) told h.each;
}
