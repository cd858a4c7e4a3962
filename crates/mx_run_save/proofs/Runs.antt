-- A run that couldn't begin, and one that began.
use Rattle.std.proofs.Common.{◌≡◌, ◌∙◌, refl, ap, arith, ℕ, Bool, List, [], true, false, Some, None, inl, inr}
use Rattle.std.specs.Prelude.{◌⊎◌, Box, IsSome, Option, is_some}
use Rattle.mx_save_rules.specs.declared.list.UrlList.{UrlList}
use Rattle.mx_command.specs.declared.save.ListSource.{ListSource}
use Rattle.mx_save_urls.specs.Feeds.{list_left}
use Rattle.mx_command.specs.declared.save.Save.{Save}
use Rattle.mx_run_save.specs.Asked.{IsBodyFile, IsRefusedAlways}
use Rattle.mx_run_save.specs.Runs.{IsUnbegunBy}

-- out of memory, which may be told, or not
json_by : (json : Bool) (status : ℕ) → (json ≡ false → status ≡ 27) → status ≡ 121 → json ≡ true
json_by true status plain is = refl
json_by false status plain is = absurd (omega (arith, plain refl, is))

pub out_of_memory : (save : Save) (status : ℕ) → (status ≡ 27) ⊎ (status ≡ 121) → (save.flags.json ≡ false → status ≡ 27) → IsUnbegunBy save status
out_of_memory save status either plain = record {
  is = elim either [
    | inl is ↦ inr (inr (inl is))
    | inr is ↦ inr (inr (inr (inr is)))
  ];
  unread = λ e. elim either [
    | inl is ↦ absurd (omega (arith, e, is))
    | inr is ↦ absurd (omega (arith, e, is))
  ];
  refused = λ e. elim either [
    | inl is ↦ absurd (omega (arith, e, is))
    | inr is ↦ absurd (omega (arith, e, is))
  ];
  unwritten = json_by save.flags.json status plain;
}

-- nothing can be asked
pub unasked : (save : Save) (status : ℕ) → (status ≡ 26) ⊎ ((status ≡ 120) ⊎ (status ≡ 27)) → (status ≡ 26 → IsBodyFile save.body) → (status ≡ 120 → IsRefusedAlways save)
    → IsUnbegunBy save status
unasked save status which unread refused = record {
  is = elim which [
    | inl is ↦ inl is
    | inr other ↦ elim other [
      | inl is ↦ inr (inl is)
      | inr is ↦ inr (inr (inl is))
    ]
  ];
  unread = λ e. inr (unread e);
  refused = refused;
  unwritten = λ e. elim which [
    | inl is ↦ absurd (omega (arith, e, is))
    | inr other ↦ elim other [
      | inl is ↦ absurd (omega (arith, e, is))
      | inr is ↦ absurd (omega (arith, e, is))
    ]
  ];
}

-- the list can't be opened
pub unopened : (save : Save) (status : ℕ) → (status ≡ 26) ⊎ (status ≡ 27) → IsSome save.input → IsUnbegunBy save status
unopened save status which listed = record {
  is = elim which [
    | inl is ↦ inl is
    | inr is ↦ inr (inr (inl is))
  ];
  unread = λ e. inl listed;
  refused = λ e. elim which [
    | inl is ↦ absurd (omega (arith, e, is))
    | inr is ↦ absurd (omega (arith, e, is))
  ];
  unwritten = λ e. elim which [
    | inl is ↦ absurd (omega (arith, e, is))
    | inr is ↦ absurd (omega (arith, e, is))
  ];
}

-- the folder can't be made
pub unmade : (save : Save) (status : ℕ) → (status ≡ 23) ⊎ (status ≡ 27) → IsUnbegunBy save status
unmade save status which = record {
  is = elim which [
    | inl is ↦ inr (inr (inr (inl is)))
    | inr is ↦ inr (inr (inl is))
  ];
  unread = λ e. elim which [
    | inl is ↦ absurd (omega (arith, e, is))
    | inr is ↦ absurd (omega (arith, e, is))
  ];
  refused = λ e. elim which [
    | inl is ↦ absurd (omega (arith, e, is))
    | inr is ↦ absurd (omega (arith, e, is))
  ];
  unwritten = λ e. elim which [
    | inl is ↦ absurd (omega (arith, e, is))
    | inr is ↦ absurd (omega (arith, e, is))
  ];
}

-- where no list is asked for there is none, and it has nothing left
pub none_listed : {R A : Type 0} (remaining : R → Option (List ℕ)) (list : Option (Box (UrlList R) A)) (input : Option ListSource)
    → is_some list ≡ is_some input → input ≡ None → list_left remaining list ≡ Some []
none_listed remaining None input same none = refl
none_listed remaining (Some list) input same none = let bad : true ≡ false = same ∙ ap is_some none in absurd (cc)
