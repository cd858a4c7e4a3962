use Rattle.std.proofs.Common.{subst, sym}
use Rattle.mx_save_book.specs.Jobs.{BookValue}
use Rattle.mx_save_urls.specs.Asked.{AreAsked}
use Rattle.mx_save_urls.specs.Works.{OthersAreBroughtOn}
use Rattle.mx_save_urls.proofs.Asked.{asked_more, asked_on}
use Rattle.mx_save_urls.proofs.Begins.{adds_none_back, others_back}
use Rattle.mx_save_urls.proofs.adding.add_open.Goals as goal

pub returns-in-Made-clause-all : goal.returns-in-Made-clause-all
returns-in-Made-clause-all g c =
    let asked = g.K.Requests.asked in
    let book = c.args.work.now.book in
    let also = c.add-in-Made.new.self.book in
    asked_more book.asking also.asking book.slots also.slots (asked c.args.desk.now) (asked c.add.new.self) c.args.at c.in-Made.ticket c.args.request
    c.add-in-Made.ensures.run.book.asking c.add-in-Made.ensures.added c.requires.asked c.in-Made.ensures.added.free c.in-Made.ensures.added.asked c.requires.all

-- the multi handle takes no more, and the URL waits for the same try
pub wait-requires : goal.wait-requires
wait-requires g c =
    let old = c.args.work.now.book in
    let new = c.put_away.new.self.book in
    record {
      waits = subst (OthersAreBroughtOn c.args.at new.slots) (sym c.put_away.ensures.waiting)
          (others_back old.slots new.slots c.args.work.now.waiting c.args.at c.in_ok-put_away-in-Refused.ensures.waits c.requires.waits);
    }

pub returns-in_ok-wait-in-Refused-clause-all : goal.returns-in_ok-wait-in-Refused-clause-all
returns-in_ok-wait-in-Refused-clause-all g c =
    let old = c.args.work.now.book in
    let new = c.put_away.new.self.book in
    let asked = g.K.Requests.asked in
    subst (λ (b : BookValue g.row.W.Denot). AreAsked b.asking b.slots (asked c.add.new.self)) (sym c.wait.ensures.book)
    (asked_on old.asking new.asking old.slots new.slots (asked c.args.desk.now) (asked c.add.new.self) c.put_away.ensures.run.book.asking
    (adds_none_back old.slots new.slots c.args.at c.in_ok-put_away-in-Refused.ensures.waits) c.in-Refused.ensures.added c.requires.all)
