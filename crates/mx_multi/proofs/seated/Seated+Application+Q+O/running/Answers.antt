use Rattle.std.proofs.Common.{◌∙◌, ap, sym, refl, append-nil}
use Rattle.mx_types.specs.declared.call.Call.TheVariants as call
use Rattle.mx_types.specs.declared.reply.Reply.TheVariants as reply
use Rattle.crossbeam_channel.specs.Claims.{view}
use Rattle.mx_multi.proofs.Standing.{seat_read, receipt_is, received_more, stands_read, stands_from}
use Rattle.mx_multi.proofs.seated.Seated+Application+Q+O.running.Goals as goal

pub invariant_of-self-inside-2 : goal.invariant_of-self-inside-2
invariant_of-self-inside-2 g c =
    let s = c.self-inside.inside.0.1.0 in (
      seat_read _ s.reader _ c.self-inside.invariant.0 c.in-Some.ensures.0,
      c.self-inside.invariant.1,
      received_more _ _ _ _
          (stands_read _ (view s.key) s.reader c.running.new.self s.polled s.notes s.ties.entries s.mine s.given c.note_receipt.new.mine call.Running (reply.Running c.in-Some.answer) c.in-Some.ensures.0 refl (ap reply.Running c.in-Some.ensures.1, sym (append-nil c.running.new.self.seen)) (receipt_is _ _ _ _ _ _ _ _ c.note_receipt.ensures c.cut-cut.ensures refl refl))
          c.self-inside.invariant.2,
      c.self-inside.invariant.3,
    )

pub returns : goal.returns
returns g c =
    let s = c.self-inside.inside.0.1.0 in
    stands_from _ _ _ _ _ ((λ i. (c.self-inside.view_is i).seat) ∙ c.self.view_is)
    (stands_read _ (view s.key) s.reader c.running.new.self s.polled s.notes s.ties.entries s.mine s.given c.note_receipt.new.mine call.Running (reply.Running c.in-Some.answer) c.in-Some.ensures.0 refl (ap reply.Running c.in-Some.ensures.1, sym (append-nil c.running.new.self.seen)) (receipt_is _ _ _ _ _ _ _ _ c.note_receipt.ensures c.cut-cut.ensures refl refl))
