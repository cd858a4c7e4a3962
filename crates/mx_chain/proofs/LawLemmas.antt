-- What holds of hops that lead one to the next.
use Rattle.std.proofs.Common.{◌≡◌, ℕ, ◌+◌, zero, suc, true, List, [], ◌∷◌, ◌++◌, Some, None, Ok, sym, ap, ◌∙◌, subst, arith}
use Rattle.std.specs.Prelude.{IfSome, slice_get, unwrap_or}
use Rattle.mx_request.specs.Redirects.{ChainKeeps}
use Rattle.mx_request.specs.Request.{RequestValue}
use Rattle.mx_exchange.specs.Hops as hop
use Rattle.mx_exchange.specs.Exchanges.{HopValue}
use Rattle.mx_chain.specs.Hops.{is_redirect, next_of, LeadTo}

module _ (most : ℕ) where
  pub served : (first : RequestValue) (hops : List HopValue) (last : HopValue) → LeadTo most first hops last.request → hop.IsHop last → (i : ℕ)
      → IfSome (slice_get (hops ++ last ∷ []) i) hop.IsHop
  served first [] last l h zero = h
  served first [] last l h (suc i) = tt
  served first (x ∷ hops) last l h zero = l.2
  served first (x ∷ hops) last l h (suc i) = served l.3.0 hops last l.3.2 h i

  -- the first of them has the request that they lead from
  begins : (first : RequestValue) (hops : List HopValue) (last after : HopValue) → LeadTo most first hops last.request → slice_get (hops ++ last ∷ []) 0 ≡ Some after
      → after.request ≡ first
  begins first [] last after l e =
      let same : last ≡ after = (let k : Some last ≡ Some after = e in cc) in
      ap (λ (o : HopValue). o.request) (sym same) ∙ sym l
  begins first (x ∷ hops) last after l e =
      let same : x ≡ after = (let k : Some x ≡ Some after = e in cc) in
      ap (λ (o : HopValue). o.request) (sym same) ∙ l.0

  leads : (first : RequestValue) (hops : List HopValue) (last : HopValue) → LeadTo most first hops last.request → (i : ℕ) (before after : HopValue)
      → slice_get (hops ++ last ∷ []) i ≡ Some before → slice_get (hops ++ last ∷ []) (suc i) ≡ Some after
      → (is_redirect most before ≡ true) × (next_of before ≡ Ok after.request)
  leads first [] last l i before after b a = let k : None ≡ Some after = a in cc
  leads first (x ∷ hops) last l zero before after b a =
      let same : x ≡ before = (let k : Some x ≡ Some before = b in cc) in
      subst (λ (o : HopValue). (is_redirect most o ≡ true) × (next_of o ≡ Ok after.request)) same
      (l.1, l.3.1 ∙ ap Ok (sym (begins l.3.0 hops last after l.3.2 a)))
  leads first (x ∷ hops) last l (suc i) before after b a = leads l.3.0 hops last l.3.2 i before after b a

  pub leads_at : (first : RequestValue) (hops : List HopValue) (last : HopValue) → LeadTo most first hops last.request → (i : ℕ) (before after : HopValue)
      → slice_get (hops ++ last ∷ []) i ≡ Some before → slice_get (hops ++ last ∷ []) (i + 1) ≡ Some after
      → (is_redirect most before ≡ true) × (next_of before ≡ Ok after.request)
  leads_at first hops last l i before after b a =
      let next : i + 1 ≡ suc i = omega arith in
      leads first hops last l i before after b (subst (λ (k : ℕ). slice_get (hops ++ last ∷ []) k ≡ Some after) next a)

  -- each is of the chain of the first request
  pub chained : ChainKeeps → (first : RequestValue) (hops : List HopValue) (last : HopValue) → LeadTo most first hops last.request → (i : ℕ) (later : HopValue)
      → slice_get (hops ++ last ∷ []) i ≡ Some later → later.request.first ≡ first.first
  chained keeps first [] last l zero later e =
      let same : last ≡ later = (let k : Some last ≡ Some later = e in cc) in
      ap (λ (o : HopValue). o.request.first) (sym same) ∙ ap (λ (r : RequestValue). r.first) (sym l)
  chained keeps first [] last l (suc i) later e = let k : None ≡ Some later = e in cc
  chained keeps first (x ∷ hops) last l zero later e =
      let same : x ≡ later = (let k : Some x ≡ Some later = e in cc) in
      ap (λ (o : HopValue). o.request.first) (sym same) ∙ ap (λ (r : RequestValue). r.first) l.0
  chained keeps first (x ∷ hops) last l (suc i) later e =
      chained keeps l.3.0 hops last l.3.2 i later e
      ∙ (keeps x.request l.3.0 x.status (unwrap_or x.location []) l.3.1).0
      ∙ ap (λ (r : RequestValue). r.first) l.0
