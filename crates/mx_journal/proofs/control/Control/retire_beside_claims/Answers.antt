use Rattle.std.proofs.Common.{◌≡◌, ◌∙◌, ap, sym, refl, length}
use Rattle.std.specs.Prelude.{max}
use Rattle.mx_history.specs.History.{beyond, retire}
use Rattle.mx_journal.proofs.Retirings.{begun-retired, control-retired, next-retired, origins-retired}
use Rattle.mx_journal.proofs.control.Control.retire_beside_claims.Goals as goal

pub invariant_of-self : goal.invariant_of-self
invariant_of-self g c =
    let j = c.self.inside.journal.items in
    let l = c.self.invariant.kept.sound.kept.legal in
    let k : c.keep_the_added.new.journal.items ≡ retire j = c.keep_the_added.ensures.items in
    let next : c.next-first.result ≡ max c.self.inside.first (beyond j) = rw (← c.self.view_is) at c.next-first.ensures in
    let t = rw k at c.keep_the_added.ensures.tabled.table in
    let from : c.len-self-inside.result ≡ length (retire j) = c.len-self-inside.ensures (retire j) t in
    record {
      tabled = c.keep_the_added.ensures.tabled;
      kept = rw k (control-retired g.O.Ending.code_of g.O.Ending.size_of c.self.inside.history j c.self.inside.queue.items c.self.inside.endings.items _ _ c.self.invariant.kept);
      begun = rw (k, next, from, c.makers-self-inside.ensures) (begun-retired _ j c.self.inside.before c.keep_the_added.new.table l c.self.invariant.begun t);
      origins = rw (k, next, from) (origins-retired g.Q.Work.origin _ j c.self.inside.origins c.self.inside.queue.items l c.self.invariant.origins);
    }

pub returns-clause-retired : goal.returns-clause-retired
returns-clause-retired g c =
    let j = c.self.inside.journal.items in
    let k : c.keep_the_added.new.journal.items ≡ retire j = c.keep_the_added.ensures.items in
    let next : c.next-first.result ≡ max c.self.inside.first (beyond j) = rw (← c.self.view_is) at c.next-first.ensures in
    let from : c.len-self-inside.result ≡ length (retire j) = c.len-self-inside.ensures (retire j) (rw k at c.keep_the_added.ensures.tabled.table) in
    rw (← c.self.view_is, k, next, from) refl

pub returns-clause-kept : goal.returns-clause-kept
returns-clause-kept g c =
    let j = c.self.inside.journal.items in
    let k : c.keep_the_added.new.journal.items ≡ retire j = c.keep_the_added.ensures.items in
    let from : c.len-self-inside.result ≡ length (retire j) = c.len-self-inside.ensures (retire j) (rw k at c.keep_the_added.ensures.tabled.table) in
    from ∙ ap length (sym k)

pub returns-clause-next : goal.returns-clause-next
returns-clause-next g c =
    let j = c.self.inside.journal.items in
    let next : c.next-first.result ≡ max c.self.inside.first (beyond j) = rw (← c.self.view_is) at c.next-first.ensures in
    rw (← c.self.view_is, c.keep_the_added.ensures.items, next)
    (next-retired (record { history = c.self.inside.history; first = c.self.inside.first; from = c.self.inside.from }) j c.self.invariant.kept.sound.kept.legal)
