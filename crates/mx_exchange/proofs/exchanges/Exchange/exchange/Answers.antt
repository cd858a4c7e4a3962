use Rattle.std.proofs.Common.{refl, sym, ap, ◌∙◌}
use Rattle.mx_line.specs.Lines.{LineState}
use Rattle.mx_reader.specs.Readers.{may_keep}
use Rattle.mx_exchange.specs.Turns.{unserved}
use Rattle.mx_exchange.specs.declared.exchanges.stages.Live.{Live}
use Rattle.mx_exchange.proofs.StageLemmas.{live_is}
use Rattle.mx_exchange.proofs.Advanced.{Exchange-blocked, Exchange-unfinished, Exchange-lost, Exchange-ended, over_to}
use Rattle.mx_exchange.proofs.HopLemmas.{received_bounded, kept_ends}
use Rattle.mx_exchange.proofs.exchanges.Exchange.exchange.Goals as goal

pub returns-in_default-line-clause-turn : goal.returns-in_default-line-clause-turn
returns-in_default-line-clause-turn g c = rw (← c.self.view_is, c.in-Live.is, c.in_default-line.is) (unserved refl refl)

pub returns-in-Blocked-clause-turn : goal.returns-in-Blocked-clause-turn
returns-in-Blocked-clause-turn g c =
    let serves = rw c.in-Some.is at (rw c.in-Live.is at c.self.invariant.stage).serves in
    let t = c.in-Blocked.ensures.turn in
    rw (← c.self.view_is, c.in-Live.is, c.in-Some.is, ap (λ (l : LineState _). l.attached) t.grows, ap (λ (l : LineState _). l.is_reused) t.grows, ap (λ (l : LineState _). l.needs_probe) t.grows)
    (Exchange-blocked _ _ _ _ _ _ _ refl refl refl serves.about serves.line.told c.in-Blocked.ensures.line.told _ c.most_reads-most_reads.ensures.most t refl refl)

pub returns-in-Unfinished-clause-turn : goal.returns-in-Unfinished-clause-turn
returns-in-Unfinished-clause-turn g c =
    let serves = rw c.in-Some.is at (rw c.in-Live.is at c.self.invariant.stage).serves in
    let t = c.in-Unfinished.ensures.turn in
    rw (← c.self.view_is, c.in-Live.is, c.in-Some.is, ap (λ (l : LineState _). l.attached) t.grows, ap (λ (l : LineState _). l.is_reused) t.grows, ap (λ (l : LineState _). l.needs_probe) t.grows)
    (Exchange-unfinished _ _ _ _ _ _ _ refl refl refl serves.about serves.line.told c.in-Unfinished.ensures.line.told _ c.most_reads-most_reads.ensures.most t refl refl)

pub returns-in-Lost-clause-turn : goal.returns-in-Lost-clause-turn
returns-in-Lost-clause-turn g c =
    let serves = rw c.in-Some.is at (rw c.in-Live.is at c.self.invariant.stage).serves in
    let t = c.in-Lost.ensures.turn in
    let fresh = ap (λ (l : LineState _). l.is_stale) t.grows ∙ serves.current in
    rw (← c.self.view_is, c.in-Live.is, c.in-Some.is, c.begin_again.ensures)
    (Exchange-lost _ _ _ _ _ _ _ refl refl refl serves.about serves.line.told c.in-Lost.ensures.line.told _ c.most_reads-most_reads.ensures.most t refl (c.in-Lost.ensures.line.serving fresh).order refl)

pub returns-in-Over-clause-turn : goal.returns-in-Over-clause-turn
returns-in-Over-clause-turn g c =
    let alive = rw c.in-Live.is at c.self.invariant.stage in
    let serves = rw c.in-Some.is at alive.serves in
    let t = c.in-Over.ensures.turn in
    let took = live_is _ _ c.take_live-request-in-Over.ensures.live in
    rw (← c.self.view_is, c.in-Live.is, c.in-Some.is, c.settle.ensures, ap (λ (l : Live _). l.line) took, ap (λ (l : LineState _). l.attached) t.grows, ap (λ (l : LineState _). l.is_reused) t.grows, ap (λ (l : LineState _). l.needs_probe) t.grows, c.received-count.ensures, ap (λ (l : Live _). l.reader) took)
    (Exchange-ended _ _ _ _ _ _ _ refl refl refl serves.about serves.line.told c.in-Over.ensures.line.told _ c.most_reads-most_reads.ensures.most t c.in-Over.code _ refl (c.in-Over.ensures.handed.limit ∙ alive.limit_is) (c.end.ensures.request ∙ ap (λ (l : Live _). l.request) took ∙ alive.about ∙ sym serves.about) (c.end.ensures.limit ∙ ap (λ (l : Live _). l.reader.limit) took) (c.end.ensures.wire ∙ ap (λ (l : Live _). l.reader.wire) took) c.end.ensures.code c.end.ensures.status (c.end.ensures.parts ∙ ap (λ (l : Live _). l.reader.judgement.parts) took) (c.end.ensures.content ∙ ap (λ (l : Live _). l.reader.judgement.content) took) (c.end.ensures.answers ∙ c.answers-answers.ensures) (c.end.ensures.reused ∙ c.of-is_reused.ensures ∙ c.is_reused.ensures) (c.may_keep-is_kept.ensures ∙ ap (λ (l : Live _). may_keep l.reader.judgement l.reader.wire) took) refl)

pub returns-in-Lost-clause-handed : goal.returns-in-Lost-clause-handed
returns-in-Lost-clause-handed g c = rw (← c.self.view_is, c.in-Live.is, c.begin_again.ensures) (over_to _ _ _ _ _ (sym c.in-Lost.ensures.turn.so.1) c.in-Lost.ensures.handed.hands)

pub returns-in-Over-clause-handed : goal.returns-in-Over-clause-handed
returns-in-Over-clause-handed g c =
    let took = live_is _ _ c.take_live-request-in-Over.ensures.live in
    rw (← c.self.view_is, c.in-Live.is) (over_to _ _ _ _ _ (c.end.ensures.content ∙ ap (λ (l : Live _). l.reader.judgement.content) took) c.in-Over.ensures.handed.hands)

pub settle-requires : goal.settle-requires
settle-requires g c =
    let alive = rw c.in-Live.is at c.self.invariant.stage in
    let serves = rw c.in-Some.is at alive.serves in
    let t = c.in-Over.ensures.turn in
    let took = live_is _ _ c.take_live-request-in-Over.ensures.live in
    let request = ap (λ (l : LineState _). l.request) t.grows in
    let reused = ap (λ (l : LineState _). l.is_reused) t.grows in
    let fresh = ap (λ (l : LineState _). l.is_stale) t.grows ∙ serves.current in
    let order = (c.in-Over.ensures.line.serving fresh).order in
    rw (ap (λ (l : Live _). l.line) took) (record {
      serves = record { about = request ∙ serves.about; current = fresh; line = c.in-Over.ensures.line; unreused = λ e. reused ∙ serves.unreused e; wanted = serves.wanted };
      kept = λ k. (c.serve.new.reader.limit, c.serve.new.reader.wire, c.serve.new.reader.judgement, rw request (kept_ends _ _ _ _ _ _ t.so.cause (sym (c.may_keep-is_kept.ensures ∙ ap (λ (l : Live _). may_keep l.reader.judgement l.reader.wire) took) ∙ k)));
      bounded = λ none. rw (c.received-count.ensures, ap (λ (l : Live _). l.reader) took) (received_bounded _ _ _ _ _ _ _ _ order (c.in-Over.ensures.handed.limit ∙ alive.limit_is ∙ none) t.so.cause);
    })
