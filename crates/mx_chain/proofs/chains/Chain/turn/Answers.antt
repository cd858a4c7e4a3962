use Rattle.std.proofs.Common.{ℕ, List, length, refl, sym, ap, subst, ◌∙◌}
use Rattle.mx_request.specs.Request.{RequestValue}
use Rattle.mx_exchange.specs.Turns as hop
use Rattle.mx_exchange.proofs.Advanced.{over_to}
use Rattle.mx_chain.specs.Hops.{LeadTo}
use Rattle.mx_chain.specs.Steps.{waited, asked}
use Rattle.mx_chain.proofs.Passing.{passes_by, passed_is, passed_none, Turns-empty, turned_chain, held_same}
use Rattle.mx_chain.proofs.StepLemmas.{goes_again, goes_same, goes_ended, goes_late, goes_counted, goes_received, goes_home, goes_token, goes_undecided, goes_content, goes_limit, goes_last, ended_by, if_ended_limit}
use Rattle.mx_chain.proofs.chains.Chain.turn.Goals as goal

pub returns-in-Waits-clause-turn : goal.returns-in-Waits-clause-turn
returns-in-Waits-clause-turn g c = rw (← c.self.view_is) (waited (rw c.in-Waits.is at c.turn-turned.ensures.turn) refl)

pub returns-in-Asks-clause-turn : goal.returns-in-Asks-clause-turn
returns-in-Asks-clause-turn g c = rw (← c.self.view_is) (asked (rw c.in-Asks.is at c.turn-turned.ensures.turn) refl)

pub returns-in-Ended-clause-turn : goal.returns-in-Ended-clause-turn
returns-in-Ended-clause-turn g c =
    let turn = rw c.in-Ended.is at c.turn-turned.ensures.turn in
    let none = Turns-empty _ _ _ _ turn in
    rw (← c.self.view_is) (ended_by _ _ _ _ _ _ _ turn refl (rw none (passed_none c.settle_content-self-inside.result)) (rw c.code.ensures.code at c.go_on-stepped.ensures.goes))

pub returns-in-Ended-clause-again : goal.returns-in-Ended-clause-again
returns-in-Ended-clause-again g c = goes_again _ _ _ _ _ c.go_on-stepped.ensures.goes

pub returns-in-Ended-clause-same : goal.returns-in-Ended-clause-same
returns-in-Ended-clause-same g c = rw (← c.self.view_is) (goes_same _ _ _ _ _ c.go_on-stepped.ensures.goes)

pub returns-in-Ended-clause-late : goal.returns-in-Ended-clause-late
returns-in-Ended-clause-late g c = rw (← c.self.view_is) (goes_late _ _ _ _ _ _ c.go_on-stepped.ensures.goes (rw c.in-Ended.is at c.turn-turned.ensures.late))

pub returns-in-Ended-clause-ended : goal.returns-in-Ended-clause-ended
returns-in-Ended-clause-ended g c = goes_ended _ _ _ _ _ c.go_on-stepped.ensures.goes

pub returns-in-Ended-clause-token : goal.returns-in-Ended-clause-token
returns-in-Ended-clause-token g c = rw (← c.self.view_is) (goes_token _ _ _ _ _ _ _ c.go_on-stepped.ensures.goes c.turn-turned.ensures.token)

pub returns-in-Ended-clause-undecided : goal.returns-in-Ended-clause-undecided
returns-in-Ended-clause-undecided g c = goes_undecided _ _ _ _ _ _ _ _ c.go_on-stepped.ensures.goes c.know-in-Ended.ensures.chain c.know-in-Ended.ensures.hop

pub returns-in-Ended-clause-counted : goal.returns-in-Ended-clause-counted
returns-in-Ended-clause-counted g c = rw (← c.self.view_is) (goes_counted _ _ _ _ _ _ c.go_on-stepped.ensures.goes c.turn-turned.ensures.counted)

pub returns-in-Ended-clause-received : goal.returns-in-Ended-clause-received
returns-in-Ended-clause-received g c =
    goes_received _ _ _ _ _ c.go_on-stepped.ensures.goes (c.self.invariant.chain.bytes (rw (← c.self.view_is) at c.requires)) (rw c.in-Ended.is at c.turn-turned.ensures.ended).1

pub returns-in-Ended-clause-home : goal.returns-in-Ended-clause-home
returns-in-Ended-clause-home g c = goes_home _ _ _ _ _ c.go_on-stepped.ensures.goes

pub returns-in-Ended-clause-value : goal.returns-in-Ended-clause-value
returns-in-Ended-clause-value g c = rw (← c.self.view_is) c.go_on-stepped.ensures.value

pub returns-in-Ended-clause-outcome : goal.returns-in-Ended-clause-outcome
returns-in-Ended-clause-outcome g c = c.go_on-stepped.ensures.outcome

pub returns-in-Ended-clause-known : goal.returns-in-Ended-clause-known
returns-in-Ended-clause-known g c = c.know-in-Ended.ensures.chain

pub returns-in-Ended-clause-hop : goal.returns-in-Ended-clause-hop
returns-in-Ended-clause-hop g c = c.know-in-Ended.ensures.hop

pub invariant_of-self : goal.invariant_of-self
invariant_of-self g c =
    let none = rw (← c.self.view_is) at c.requires in
    let p = passes_by g.L.Link.history g.L.Link.asked g.L.Link.token_of c.self.inside.exchange _ hop.waits _ _ _ _ _ _ _ _ c.know.ensures (c.self.invariant.chain.going.0 none) (c.self.invariant.chain.handed none)
    (rw c.in-Waits.is at c.turn-turned.ensures.turn) (rw c.in-Waits.is at c.turn-turned.ensures.handed) (ap (λ (l : List ℕ). length l) c.as_slice-before.ensures) c.self.invariant.most (rw c.in-Waits.is at c.settle_content-self-inside.ensures) in
    record { most = c.self.invariant.most; chain = turned_chain _ _ _ c.self.invariant.chain none (rw c.in-Waits.is at c.turn-turned.ensures.again) (rw c.in-Waits.is at c.turn-turned.ensures.same) c.turn-turned.ensures.limit.0 p.0 }

pub returns-in-Waits-clause-handed : goal.returns-in-Waits-clause-handed
returns-in-Waits-clause-handed g c =
    let none = rw (← c.self.view_is) at c.requires in
    let p = passes_by g.L.Link.history g.L.Link.asked g.L.Link.token_of c.self.inside.exchange _ hop.waits _ _ _ _ _ _ _ _ c.know.ensures (c.self.invariant.chain.going.0 none) (c.self.invariant.chain.handed none)
    (rw c.in-Waits.is at c.turn-turned.ensures.turn) (rw c.in-Waits.is at c.turn-turned.ensures.handed) (ap (λ (l : List ℕ). length l) c.as_slice-before.ensures) c.self.invariant.most (rw c.in-Waits.is at c.settle_content-self-inside.ensures) in
    rw (← c.self.view_is) p.1

pub returns-in-Waits-clause-known : goal.returns-in-Waits-clause-known
returns-in-Waits-clause-known g c =
    let none = rw (← c.self.view_is) at c.requires in
    let p = passes_by g.L.Link.history g.L.Link.asked g.L.Link.token_of c.self.inside.exchange _ hop.waits _ _ _ _ _ _ _ _ c.know.ensures (c.self.invariant.chain.going.0 none) (c.self.invariant.chain.handed none)
    (rw c.in-Waits.is at c.turn-turned.ensures.turn) (rw c.in-Waits.is at c.turn-turned.ensures.handed) (ap (λ (l : List ℕ). length l) c.as_slice-before.ensures) c.self.invariant.most (rw c.in-Waits.is at c.settle_content-self-inside.ensures) in
    turned_chain _ _ _ c.self.invariant.chain none (rw c.in-Waits.is at c.turn-turned.ensures.again) (rw c.in-Waits.is at c.turn-turned.ensures.same) c.turn-turned.ensures.limit.0 p.0

pub invariant_of-self-in-Asks : goal.invariant_of-self-in-Asks
invariant_of-self-in-Asks g c =
    let none = rw (← c.self.view_is) at c.requires in
    let p = passes_by g.L.Link.history g.L.Link.asked g.L.Link.token_of c.self.inside.exchange _ hop.asks _ _ _ _ _ _ _ _ c.know.ensures (c.self.invariant.chain.going.0 none) (c.self.invariant.chain.handed none)
    (rw c.in-Asks.is at c.turn-turned.ensures.turn) (rw c.in-Asks.is at c.turn-turned.ensures.handed) (ap (λ (l : List ℕ). length l) c.as_slice-before.ensures) c.self.invariant.most (rw c.in-Asks.is at c.settle_content-self-inside.ensures) in
    record { most = c.self.invariant.most; chain = turned_chain _ _ _ c.self.invariant.chain none (rw c.in-Asks.is at c.turn-turned.ensures.again) (rw c.in-Asks.is at c.turn-turned.ensures.same) c.turn-turned.ensures.limit.0 p.0 }

pub returns-in-Asks-clause-handed : goal.returns-in-Asks-clause-handed
returns-in-Asks-clause-handed g c =
    let none = rw (← c.self.view_is) at c.requires in
    let p = passes_by g.L.Link.history g.L.Link.asked g.L.Link.token_of c.self.inside.exchange _ hop.asks _ _ _ _ _ _ _ _ c.know.ensures (c.self.invariant.chain.going.0 none) (c.self.invariant.chain.handed none)
    (rw c.in-Asks.is at c.turn-turned.ensures.turn) (rw c.in-Asks.is at c.turn-turned.ensures.handed) (ap (λ (l : List ℕ). length l) c.as_slice-before.ensures) c.self.invariant.most (rw c.in-Asks.is at c.settle_content-self-inside.ensures) in
    rw (← c.self.view_is) p.1

pub returns-in-Asks-clause-known : goal.returns-in-Asks-clause-known
returns-in-Asks-clause-known g c =
    let none = rw (← c.self.view_is) at c.requires in
    let p = passes_by g.L.Link.history g.L.Link.asked g.L.Link.token_of c.self.inside.exchange _ hop.asks _ _ _ _ _ _ _ _ c.know.ensures (c.self.invariant.chain.going.0 none) (c.self.invariant.chain.handed none)
    (rw c.in-Asks.is at c.turn-turned.ensures.turn) (rw c.in-Asks.is at c.turn-turned.ensures.handed) (ap (λ (l : List ℕ). length l) c.as_slice-before.ensures) c.self.invariant.most (rw c.in-Asks.is at c.settle_content-self-inside.ensures) in
    turned_chain _ _ _ c.self.invariant.chain none (rw c.in-Asks.is at c.turn-turned.ensures.again) (rw c.in-Asks.is at c.turn-turned.ensures.same) c.turn-turned.ensures.limit.0 p.0

pub returns-in-Ended-clause-handed : goal.returns-in-Ended-clause-handed
returns-in-Ended-clause-handed g c =
    let none = rw (← c.self.view_is) at c.requires in
    let p = passes_by g.L.Link.history g.L.Link.asked g.L.Link.token_of c.self.inside.exchange _ (hop.ends c.in-Ended.hop) _ _ _ _ _ _ _ _ c.know.ensures (c.self.invariant.chain.going.0 none) (c.self.invariant.chain.handed none)
    (rw c.in-Ended.is at c.turn-turned.ensures.turn) (rw c.in-Ended.is at c.turn-turned.ensures.handed) (ap (λ (l : List ℕ). length l) c.as_slice-before.ensures) c.self.invariant.most (rw c.in-Ended.is at c.settle_content-self-inside.ensures) in
    let request = rw c.in-Ended.is at c.turn-turned.ensures.value in
    let leads = subst (λ (r : RequestValue). LeadTo c.self.inside.about.value.settings.max_redirects c.self.inside.about.value c.self.inside.hops.all r) (sym request) (c.self.invariant.chain.leads none) in
    rw (← c.self.view_is) (over_to _ _ _ _ _ (goes_content _ _ _ _ _ leads c.go_on-stepped.ensures.goes ∙ sym (passed_is _ _ _ (rw c.in-Ended.is at c.turn-turned.ensures.outcome) p.0)) p.1)

pub returns-in-Ended-clause-held : goal.returns-in-Ended-clause-held
returns-in-Ended-clause-held g c none =
    held_same _ _ _ _ _ (ap (λ (l : List ℕ). length l) c.as_slice-before.ensures) (c.turn-turned.ensures.held (rw (← c.self.view_is) at none)) c.settle_content-self-inside.ensures.rest

pub returns-in-Ended-clause-limit : goal.returns-in-Ended-clause-limit
returns-in-Ended-clause-limit g c =
    let limit = rw c.in-Ended.is at c.turn-turned.ensures.limit in
    rw (← c.self.view_is) (goes_limit _ _ _ _ _ c.go_on-stepped.ensures.goes ∙ limit.0, if_ended_limit _ _ _ limit.1 (goes_last _ _ _ _ _ c.go_on-stepped.ensures.goes))
