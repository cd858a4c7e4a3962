use Rattle.std.proofs.Common.{◌≡◌, ◌∙◌, refl, ap, sym, subst}
use Rattle.crossbeam_channel.specs.Claims.{view}
use Rattle.std.proofs.lemmas.List.Elements.{All-push}
use Rattle.mx_append_log.specs.Log.{AreOfOneList, Mark}
use Rattle.mx_types.specs.declared.origin.Origin.{Origin}
use Rattle.mx_lock.specs.Engine.{EngineState}
use Rattle.mx_multi.specs.Opening.{IsFounded}
use Rattle.mx_multi.specs.Retiring.{FoundIn, Hinders, MayRetire}
use Rattle.mx_multi.specs.Seats.{Finds, MultiView, SeatView}
use Rattle.mx_multi.specs.declared.open.Limits.{Limits}
use Rattle.mx_multi.proofs.Standing.{finds, finds_other, locked_as, other_from}
use Rattle.mx_multi.proofs.Kept.{none_lack, refused_by, wrong_seat}
use Rattle.mx_multi.proofs.seat.SeatOf+Application+Q+O.retire_by.Goals as goal

pub returns-in-Err-clause-refused : goal.returns-in-Err-clause-refused
returns-in-Err-clause-refused g c =
    wrong_seat g.O.Ending.code_of g.O.Ending.size_of c.args.multi.now c.args.seats.now c.args.workers.now c.args.self c.requires.own.0
    (other_from g.O.Ending.code_of g.O.Ending.size_of _ _ c.self.view_is
    (finds_other g.O.Ending.code_of g.O.Ending.size_of (view c.self.inside.key) c.self.inside.reader c.in-Err._found.value _ c.self.inside.polled c.self.inside.notes c.self.inside.ties.entries c.self.inside.mine c.self.inside.given refl c.self.invariant.0 c.in-Err.ensures.right.0 c.in-Err.ensures.newer c.in-Err.ensures.right.1))

pub returns-clause-refused : goal.returns-clause-refused
returns-clause-refused g c =
    let took = c.in-Ok.ensures.entered.0 in
    let x = c.in-Ok.taken in
    let m = c.args.multi.now in
    let of = ap (λ (s : SeatView g.row.Q.Denot g.row.O.Denot). s.of.engine) c.self.view_is ∙ ap (λ (z : MultiView g.row.Q.Denot g.row.O.Denot). z.engine) c.requires.own.0 in
    let at : FoundIn g.O.Ending.code_of g.O.Ending.size_of m x = record { engine = sym took.engine ∙ of; locked = locked_as _ _ _ _ c.engine-engine.ensures c.know-known.ensures.locked } in
    let f : Finds c.args.self x.core.journal = subst (λ (s : SeatView g.row.Q.Denot g.row.O.Denot). Finds s x.core.journal) c.self.view_is
    (finds _ _ c.self.inside.reader x c.self.invariant.0 took _ c.self.inside.polled c.self.inside.notes c.self.inside.ties.entries c.self.inside.mine c.self.inside.given c.in-Ok.ensures.entered.1) in
    refused_by g.O.Ending.code_of g.O.Ending.size_of m c.args.seats.now c.args.workers.now c.args.self c.in-Err-prepare.why x m.limits refl at f
    (subst (λ (z : EngineState g.row.Q.Denot g.row.O.Denot). Hinders z m.limits c.args.seats.now c.args.workers.now c.in-Err-prepare.why) c.engine-engine.ensures c.in-Err-prepare.ensures.may)

pub returns-in-Ok-prepare-clause-retired : goal.returns-in-Ok-prepare-clause-retired
returns-in-Ok-prepare-clause-retired g c =
    let took = c.in-Ok.ensures.entered.0 in
    let x = c.in-Ok.taken in
    let m = c.args.multi.now in
    let j = x.core.journal in
    let of = ap (λ (s : SeatView g.row.Q.Denot g.row.O.Denot). s.of.engine) c.self.view_is ∙ ap (λ (z : MultiView g.row.Q.Denot g.row.O.Denot). z.engine) c.requires.own.0 in
    let f : Finds c.args.self j = subst (λ (s : SeatView g.row.Q.Denot g.row.O.Denot). Finds s j) c.self.view_is
    (finds _ _ c.self.inside.reader x c.self.invariant.0 took _ c.self.inside.polled c.self.inside.notes c.self.inside.ties.entries c.self.inside.mine c.self.inside.given c.in-Ok.ensures.entered.1) in
    let may = subst (λ (z : EngineState g.row.Q.Denot g.row.O.Denot). MayRetire z m.limits c.args.seats.now c.args.workers.now) c.engine-engine.ensures c.in-Ok-prepare.ensures.may in
    let list : c.tie_mark.result.entries ≡ x.ties.entries = ap (λ (t : Mark Origin). t.entries) c.tie_mark.ensures ∙ ap (λ (z : EngineState g.row.Q.Denot g.row.O.Denot). z.ties.entries) c.engine-engine.ensures in
    let told : AreOfOneList c.args.self.ties x.ties.entries =
    subst (λ (s : SeatView g.row.Q.Denot g.row.O.Denot). AreOfOneList s.ties x.ties.entries) c.self.view_is (subst (AreOfOneList c.self.inside.ties.entries) list c.are_of_one_list-2.ensures) in
    let y = c.retire-retired.result in
    record {
      all = none_lack g.O.Ending.code_of g.O.Ending.size_of m c.args.seats.now c.args.workers.now c.args.self m.limits refl may.all_seats may.all_workers;
      found = x;
      is = record { engine = sym took.engine ∙ of; locked = locked_as _ _ _ _ c.engine-engine.ensures c.know-known.ensures.locked };
      idle = may.idle;
      of_seats = (All-push (λ (s : SeatView g.row.Q.Denot g.row.O.Denot). Finds s j) c.args.seats.now c.args.self may.of_seats.0 f, All-push (λ (s : SeatView g.row.Q.Denot g.row.O.Denot). AreOfOneList s.ties x.ties.entries) c.args.seats.now c.args.self may.of_seats.1 told);
      of_workers = may.of_workers;
      after = y;
      retired = ap (λ (z : EngineState g.row.Q.Denot g.row.O.Denot). z.core) c.retire-retired.ensures;
      ties = ap (λ (z : EngineState g.row.Q.Denot g.row.O.Denot). z.ties) c.retire-retired.ensures;
      founded = subst (λ (l : Limits). IsFounded l y c.found.result.0 c.found.result.1.items c.found.result.2.items) (ap (λ (z : MultiView g.row.Q.Denot g.row.O.Denot). z.limits) c.multi.view_is) c.found.ensures;
    }
