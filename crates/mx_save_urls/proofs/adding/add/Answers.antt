use Rattle.std.proofs.Common.{◌≡◌, refl, subst, sym}
use Rattle.mx_save_book.specs.Books.{Begins}
use Rattle.mx_save_book.specs.Jobs.{BookValue}
use Rattle.mx_save_urls.specs.Asked.{AreAsked}
use Rattle.mx_save_urls.specs.Works.{AreBroughtOn, OthersAreBroughtOn}
use Rattle.mx_save_urls.proofs.Asked.{asked_on}
use Rattle.mx_save_urls.proofs.Begins.{adds_none_begun, all_ended, for_begun, has_open, others_begun}
use Rattle.mx_save_urls.proofs.adding.add.Goals as goal

pub add_open-requires-clause-open : goal.add_open-requires-clause-open
add_open-requires-clause-open g c =
    let old = c.args.work.now.book in
    let new = c.open.new.self.book in
    let begun = subst (Begins old new c.args.at) c.in-Spool.is c.in_ok-spool.ensures.begun in
    has_open old new c.args.at c.in-Spool.field-1 c.in-Spool.spool begun

pub add_open-requires-clause-asked : goal.add_open-requires-clause-asked
add_open-requires-clause-asked g c =
    let old = c.args.work.now.book in
    let new = c.open.new.self.book in
    let begun = subst (Begins old new c.args.at) c.in-Spool.is c.in_ok-spool.ensures.begun in
    for_begun old.asking old new c.args.at c.in-Spool.field-1 c.in-Spool.spool c.args.request c.open.ensures.run.book.asking begun c.requires.asked

pub add_open-requires-clause-all : goal.add_open-requires-clause-all
add_open-requires-clause-all g c =
    let old = c.args.work.now.book in
    let new = c.open.new.self.book in
    let asked = g.K.Requests.asked c.args.desk.now in
    asked_on old.asking new.asking old.slots new.slots asked asked c.open.ensures.run.book.asking
    (adds_none_begun old new c.args.at c.in_ok-spool.field-0 c.in_ok-spool.ensures.begun) refl c.requires.all

pub add_open-requires-clause-waits : goal.add_open-requires-clause-waits
add_open-requires-clause-waits g c =
    let old = c.args.work.now.book in
    let new = c.open.new.self.book in
    subst (OthersAreBroughtOn c.args.at new.slots) (sym c.open.ensures.waiting)
    (others_begun old new c.args.work.now.waiting c.args.at c.in_ok-spool.field-0 c.in_ok-spool.ensures.begun c.requires.waits)

pub wait-requires : goal.wait-requires
wait-requires g c =
    let old = c.args.work.now.book in
    let new = c.open.new.self.book in
    record {
      waits = subst (OthersAreBroughtOn c.args.at new.slots) (sym c.open.ensures.waiting)
          (others_begun old new c.args.work.now.waiting c.args.at c.in_ok-spool.field-0 c.in_ok-spool.ensures.begun c.requires.waits);
    }

pub returns-in-Ended-clause-all : goal.returns-in-Ended-clause-all
returns-in-Ended-clause-all g c =
    let old = c.args.work.now.book in
    let new = c.open.new.self.book in
    let asked = g.K.Requests.asked c.args.desk.now in
    asked_on old.asking new.asking old.slots new.slots asked asked c.open.ensures.run.book.asking
    (adds_none_begun old new c.args.at c.in_ok-spool.field-0 c.in_ok-spool.ensures.begun) refl c.requires.all

pub returns-in-Ended-clause-waits : goal.returns-in-Ended-clause-waits
returns-in-Ended-clause-waits g c =
    let old = c.args.work.now.book in
    let new = c.open.new.self.book in
    let begun = subst (Begins old new c.args.at) c.in-Ended.is c.in_ok-spool.ensures.begun in
    subst (AreBroughtOn new.slots) (sym c.open.ensures.waiting) (all_ended old new c.args.work.now.waiting c.args.at begun c.requires.waits)

pub returns-in_ok-wait-in-Waits-clause-all : goal.returns-in_ok-wait-in-Waits-clause-all
returns-in_ok-wait-in-Waits-clause-all g c =
    let old = c.args.work.now.book in
    let new = c.open.new.self.book in
    let asked = g.K.Requests.asked c.args.desk.now in
    subst (λ (b : BookValue g.row.W.Denot). AreAsked b.asking b.slots asked) (sym c.wait.ensures.book)
    (asked_on old.asking new.asking old.slots new.slots asked asked c.open.ensures.run.book.asking
    (adds_none_begun old new c.args.at c.in_ok-spool.field-0 c.in_ok-spool.ensures.begun) refl c.requires.all)
