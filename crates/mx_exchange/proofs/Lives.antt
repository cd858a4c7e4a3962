-- How often an exchange drops its link for a fresh one.
use Rattle.std.proofs.Common.{◌≡◌, ◌≢◌, ℕ, ◌+◌, ◌≤◌, zero, suc, Bool, true, false, List, refl, sym, ◌∙◌, ap, Option, Some, None, inl, inr, ◌⊎◌, arith}
use Rattle.std.specs.Prelude.{is_some, is_none, ◌&&◌, cond}
use Rattle.mx_link.specs.declared.answers.Answer.{Answer}
use Rattle.mx_exchange.specs.Exchanges.{HopValue, ExchangeState, LinkTold, clocked, dropped}
use Rattle.mx_exchange.specs.Turns.{How, EndsWith, Exchanged, unserved, lost, blocked, unfinished, ended, Turns, late, given_up, paused, refused, turned}
use Rattle.mx_exchange.specs.Laws.{drops, Life, begins, attaches, polls, goes_on}

abbrev if_one : Bool → ℕ
if_one b = cond b 1 0

abbrev lost_link : {L : Type 0} → Option L → Option L → ℕ
lost_link x y = if_one (is_some x && is_none y)

few : (a b : Bool) → if_one (a && b) ≤ 1
few true true = omega arith
few true false = omega arith
few false b = omega arith

module _ {L : Type 0} (history : L → List Answer) where
  -- once a link was dropped only fresh ones serve, and none was dropped before
  record Once (t : ExchangeState L) (n : ℕ) : Type 0 where
    fresh : (n ≡ 0) ⊎ ((n ≡ 1) × (t.needs_fresh ≡ true))
    unreused : t.needs_fresh ≡ true → t.is_reused ≡ false
    probed : t.needs_probe ≡ true → t.is_reused ≡ true

  one_at_most : (t : ExchangeState L) (n : ℕ) → Once t n → n ≤ 1
  one_at_most t n o = elim o.fresh [ inl none ↦ omega (arith, none) | inr one ↦ omega (arith, one.0) ]

  -- a link that was in use before is the first that is dropped
  first : (t : ExchangeState L) (n : ℕ) → Once t n → t.is_reused ≡ true → n ≡ 0
  first t n o reused = elim o.fresh [
    | inl none ↦ none
    | inr one ↦ absurd (let x : true ≡ false = sym reused ∙ o.unreused one.1 in cc)
  ]

  now_fresh : (n k : ℕ) → n ≡ 0 → k ≤ 1 → (t : ExchangeState L) → Once (dropped t) (n + k)
  now_fresh n k none few t = record {
    fresh = counts k few;
    unreused = λ e. refl;
    probed = λ e. let x : false ≡ true = e in cc;
  } where
    counts : (k : ℕ) → k ≤ 1 → (n + k ≡ 0) ⊎ ((n + k ≡ 1) × (true ≡ true))
    counts zero few = inl (omega (arith, none))
    counts (suc k) few = inr (omega (arith, none, few), refl)

  -- an exchange that is as it was in this
  alike : (t new : ExchangeState L) (n k : ℕ) → new.needs_fresh ≡ t.needs_fresh → new.is_reused ≡ t.is_reused → (new.needs_probe ≡ true → t.needs_probe ≡ true) → k ≡ 0 → Once t n → Once new (n + k)
  alike t new n k fresh reused probe none o = record {
    fresh = elim o.fresh [
      | inl old ↦ inl (omega (arith, old, none))
      | inr one ↦ inr (omega (arith, one.0, none), fresh ∙ one.1)
    ];
    unreused = λ e. reused ∙ o.unreused (sym fresh ∙ e);
    probed = λ e. reused ∙ o.probed (probe e);
  }

  -- the same, where no link was dropped
  same : (t new : ExchangeState L) (n : ℕ) → new.needs_fresh ≡ t.needs_fresh → new.is_reused ≡ t.is_reused → (new.needs_probe ≡ true → t.needs_probe ≡ true) → Once t n → Once new n
  same t new n fresh reused probe o = record {
    fresh = elim o.fresh [ inl old ↦ inl old | inr one ↦ inr (one.0, fresh ∙ one.1) ];
    unreused = λ e. reused ∙ o.unreused (sym fresh ∙ e);
    probed = λ e. reused ∙ o.probed (probe e);
  }

  none_dropped : (x y : Option L) → x ≡ y → lost_link y x ≡ 0
  none_dropped x None e = refl
  none_dropped x (Some l) e = ap (λ (o : Option L). lost_link (Some l) o) e

  told_dropped : (x y : Option L) (more : List Answer) → LinkTold history x y more → x ≢ None → lost_link x y ≡ 0
  told_dropped None y more told some = absurd (some refl)
  told_dropped (Some l) None more told some = absurd told
  told_dropped (Some l) (Some m) more told some = refl

  module _ (n : ℕ) where
    exchanges : (t new : ExchangeState L) (how : How) → Once t n → Exchanged history t new how → Once new (n + drops t new)
    exchanges t new how o (unserved none e) =
        alike t new n (drops t new) (ap (λ (x : ExchangeState L). x.needs_fresh) e) (ap (λ (x : ExchangeState L). x.is_reused) e)
        (λ p. sym (ap (λ (x : ExchangeState L). x.needs_probe) e) ∙ p) (none_dropped new.link t.link (ap (λ (x : ExchangeState L). x.link) e)) o
    exchanges t new how o (lost last a i m e) = rw e (now_fresh n (drops t (dropped t)) (first t n o m.reused_is) (few (is_some t.link) true) t)
    exchanges t new how o (blocked a b g) =
        alike t new n (drops t new) (ap (λ (x : ExchangeState L). x.needs_fresh) g) (ap (λ (x : ExchangeState L). x.is_reused) g)
        (λ p. sym (ap (λ (x : ExchangeState L). x.needs_probe) g) ∙ p) (told_dropped t.link new.link a.more a.told a.served) o
    exchanges t new how o (unfinished a b g) =
        alike t new n (drops t new) (ap (λ (x : ExchangeState L). x.needs_fresh) g) (ap (λ (x : ExchangeState L). x.is_reused) g)
        (λ p. sym (ap (λ (x : ExchangeState L). x.needs_probe) g) ∙ p) (told_dropped t.link new.link a.more a.told a.served) o
    exchanges t new how o (ended a e r) =
        alike t new n (drops t new) (ap (λ (x : ExchangeState L). x.needs_fresh) e.ends.after) (ap (λ (x : ExchangeState L). x.is_reused) e.ends.after)
        (λ p. sym (ap (λ (x : ExchangeState L). x.needs_probe) e.ends.after) ∙ p) (told_dropped t.link new.link a.more a.told a.served) o

    stops : (t new : ExchangeState L) (o : HopValue) → Once t n → EndsWith t new o → new.link ≡ t.link → Once new (n + drops t new)
    stops t new o once e link =
        alike t new n (drops t new) (ap (λ (x : ExchangeState L). x.needs_fresh) e.after) (ap (λ (x : ExchangeState L). x.is_reused) e.after)
        (λ p. sym (ap (λ (x : ExchangeState L). x.needs_probe) e.after) ∙ p) (none_dropped new.link t.link link) once

    turns : (t new : ExchangeState L) (how : How) → Once t n → Turns history t new how → Once new (n + drops t new)
    turns t new how o (late {o = out} due is s) = stops t new out o s.ends s.link
    turns t new how o (given_up {o = out} early is s) = stops t new out o s.ends s.link
    turns t new how o (paused m still e) =
        alike t new n (drops t new) (ap (λ (x : ExchangeState L). x.needs_fresh) e) (ap (λ (x : ExchangeState L). x.is_reused) e)
        (λ p. sym (ap (λ (x : ExchangeState L). x.needs_probe) e) ∙ p) (none_dropped new.link t.link (ap (λ (x : ExchangeState L). x.link) e)) o
    turns t new how o (refused m f) = rw f.after (now_fresh n (drops t (dropped t)) (first t n o (o.probed f.needed)) (few (is_some t.link) true) t)
    turns t new how o (turned m mid (inl p) x) = rw (← p.1) (exchanges mid new how (rw p.1 o) x)
    turns t new how o (turned m mid (inr p) x) =
        let linked : is_some mid.link ≡ is_some t.link = ap (λ (y : ExchangeState L). is_some y.link) p.after ∙ sym (ap (λ (y : Option L). is_some y) p.had) in
        let probe : mid.needs_probe ≡ false = ap (λ (y : ExchangeState L). y.needs_probe) p.after in
        let at_mid : Once mid n =
        same t mid n (ap (λ (y : ExchangeState L). y.needs_fresh) p.after) (ap (λ (y : ExchangeState L). y.is_reused) p.after) (λ e. let z : true ≡ false = sym e ∙ probe in cc) o in
        rw (← linked) (exchanges mid new how at_mid x)

  once : (t : ExchangeState L) (n : ℕ) → Life history t n → Once t n
  once t n (begins fresh reused probe) = record {
    fresh = inl refl;
    unreused = λ e. reused;
    probed = λ e. let x : true ≡ false = sym e ∙ probe in cc;
  }
  once t n (attaches {t = u} life link reused fresh) = let o = once u n life in record { fresh = o.fresh; unreused = fresh; probed = λ e. e }
  once t n (polls {t = u} {n = k} life new how h) = turns k (clocked u) new how (same u (clocked u) k refl refl (λ e. e) (once u k life)) h
  once t n (goes_on {t = u} life fresh (inl stays)) =
      same u t n fresh stays.0 (λ e. sym stays.1 ∙ e) (once u n life)
  once t n (goes_on {t = u} life fresh (inr gone)) =
      let o = once u n life in
      record {
        fresh = elim o.fresh [ inl old ↦ inl old | inr one ↦ inr (one.0, fresh ∙ one.1) ];
        unreused = λ e. gone.0;
        probed = λ e. let x : true ≡ false = sym e ∙ gone.1 in cc;
      }

  pub drops_once : (t : ExchangeState L) (n : ℕ) → Life history t n → n ≤ 1
  drops_once t n life = one_at_most t n (once t n life)
