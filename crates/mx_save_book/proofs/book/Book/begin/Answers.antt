use Rattle.std.proofs.Common.{◌∙◌, ap, map, subst, sym}
use Rattle.std.specs.Prelude.{MatchOption, None}
use Rattle.mx_chain.specs.Outcomes.{OutcomeValue}
use Rattle.mx_save.specs.Ledgers.{LedgerValue}
use Rattle.mx_save.specs.Tries.{IsRefusedBy}
use Rattle.mx_save_book.specs.Books.{HasEndedUnmade, IsUnmadeNow, LeavesSlot, TellsNone, Waits}
use Rattle.mx_save_book.specs.Jobs.{BookValue}
use Rattle.mx_save_book.proofs.BookSteps.{account_later, account_opened}
use Rattle.mx_save_book.proofs.book.Book.begin.Goals as goal

pub set_open-requires : goal.set_open-requires
set_open-requires g c = record { waits = subst (λ b. Waits b.slots c.args.at) (sym c.self.view_is) c.requires.waits }

pub invariant_of-self : goal.invariant_of-self
invariant_of-self g c =
    account_opened _ _ _ _ c.args.at c.in-Ok.number c.open.new.ledger c.set_open.new.slots.items c.self.invariant
    (subst (λ b. Waits b.slots c.args.at) (sym c.self.view_is) c.requires.waits) c.set_open.ensures c.open.ensures.entries c.open.ensures.run c.in-Ok.ensures.out

pub invariant_of-self-in-Err : goal.invariant_of-self-in-Err
invariant_of-self-in-Err g c = account_later _ _ _ _ c.open.new.ledger c.self.invariant c.open.ensures.entries c.in-Err.ensures.none_out c.open.ensures.run

pub unmade-requires-clause-waits : goal.unmade-requires-clause-waits
unmade-requires-clause-waits g c = subst (λ b. Waits b.slots c.args.at) (sym c.self.view_is) c.requires.waits

pub returns-in-Ok-None-clause-begun : goal.returns-in-Ok-None-clause-begun
returns-in-Ok-None-clause-begun g c =
    let u = c.in-Err.unsaved in
    let made = c.in-Ok-None.ensures in
    let between : BookValue g.row.W.Denot = record {
      asking = c.self.inside.asking;
      urls = map (λ u. u.items) c.self.inside.urls;
      named = map (λ u. u.items) c.self.inside.named;
      slots = c.self.inside.slots.items;
      lines = c.self.inside.lines;
      ledger = c.open.new.ledger;
      is_stopped = c.self.inside.is_stopped;
    } in
    let now = c.unmade.new.self in
    let told = subst (λ o. MatchOption o (IsUnmadeNow between now c.args.at u.error u.part) (λ _. TellsNone between now)) c.in-Ok-None.field-0-is made.told in
    subst (λ b. HasEndedUnmade b now c.args.at) c.self.view_is (record {
      slots = subst (LeavesSlot c.self.inside.slots.items now.slots c.args.at) c.in-Ok-None.field-0-is made.left;
      out = ap (λ (l : LedgerValue OutcomeValue). l.out) made.ledger ∙ c.in-Err.ensures.none_out;
      why = u.error;
      part = u.part;
      refused = subst (λ l. IsRefusedBy c.self.inside.ledger l u.error u.part None) (sym made.ledger) c.in-Err.ensures.refused_by;
      told = record { job = told.job; there = told.there; told = told.told; last = told.last };
      idle = λ limit. c.is_busy.ensures.idle c.if-is_busy.false limit;
    })
