-- What an outcome is kept as.
use Rattle.std.proofs.Common.{◌≡◌, refl, inl, inr}
use Rattle.std.specs.Prelude.{Ok}
use Rattle.mx_types.specs.declared.code.Code.TheVariants as code
use Rattle.mx_exchange.specs.Hops.{HasContent}
use Rattle.mx_chain.specs.Outcomes.{OutcomeValue, IsOutcome}
use Rattle.mx_text.specs.Fetched.{fetched_of}
use Rattle.mx_text.proofs.Kept.{ok_tells}
use Rattle.mx_run_get.specs.Asked.{asked_of, IsEnd}

-- it is of the outcome's request
pub asked_kept : (o : OutcomeValue) → asked_of (fetched_of o) ≡ Ok o.request
asked_kept o = elim (ok_tells o.code) as (λ _. asked_of (fetched_of o) ≡ Ok o.request) [
  | inl t ↦ rw t.0 refl
  | inr f ↦ rw f.0 refl
]

-- and has its truth
pub end_kept : (o : OutcomeValue) → IsOutcome o → (o.code ≡ code.Ok → HasContent o.last) → IsEnd (fetched_of o)
end_kept o is content = elim (ok_tells o.code) as (λ _. IsEnd (fetched_of o)) [
  | inl t ↦ rw t.0 (is, t.1, content t.1)
  | inr f ↦ rw f.0 (is, f.1)
]
