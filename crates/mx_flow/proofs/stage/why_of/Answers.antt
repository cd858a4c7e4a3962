use Rattle.std.proofs.Common.{length, ap}
use Rattle.mx_flow.proofs.WhyProofs.{heads_say, bad_heads_say, bad_framing_says, body_says}
use Rattle.mx_flow.proofs.stage.why_of.Goals as goal

pub returns-in-Heads-clause-some : goal.returns-in-Heads-clause-some
returns-in-Heads-clause-some c =
    (heads_say c.args.method c.args.limit c.args.stage.now c.in-Heads.heads c.as_slice.result.now c.reason_of.result c.in-Heads.is c.requires c.as_slice.ensures c.reason_of.ensures.some).0

pub returns-in-BadHeads-clause-some : goal.returns-in-BadHeads-clause-some
returns-in-BadHeads-clause-some c =
    (bad_heads_say c.args.method c.args.limit c.args.stage.now c.in-BadHeads.heads c.as_slice-in-BadHeads.result.now c.in-BadHeads.field-1 c.reason_of-in-BadHeads.result c.in-BadHeads.is c.requires
    c.as_slice-in-BadHeads.ensures c.reason_of-in-BadHeads.ensures.some).0

pub returns-in-BadHeads-clause-cut : goal.returns-in-BadHeads-clause-cut
returns-in-BadHeads-clause-cut c =
    (bad_heads_say c.args.method c.args.limit c.args.stage.now c.in-BadHeads.heads c.as_slice-in-BadHeads.result.now c.in-BadHeads.field-1 c.reason_of-in-BadHeads.result c.in-BadHeads.is c.requires
    c.as_slice-in-BadHeads.ensures c.reason_of-in-BadHeads.ensures.some).1

pub returns-in-BadFraming-clause-some : goal.returns-in-BadFraming-clause-some
returns-in-BadFraming-clause-some c =
    (bad_framing_says c.args.method c.args.limit c.args.stage.now c.in-BadFraming.kept c.as_slice-in-BadFraming.result.now c.in-BadFraming.field-1 c.reason_of-in-BadFraming.result c.in-BadFraming.is c.requires
    c.as_slice-in-BadFraming.ensures.value c.reason_of-in-BadFraming.ensures.some).0

pub returns-in-BadFraming-clause-cut : goal.returns-in-BadFraming-clause-cut
returns-in-BadFraming-clause-cut c =
    (bad_framing_says c.args.method c.args.limit c.args.stage.now c.in-BadFraming.kept c.as_slice-in-BadFraming.result.now c.in-BadFraming.field-1 c.reason_of-in-BadFraming.result c.in-BadFraming.is c.requires
    c.as_slice-in-BadFraming.ensures.value c.reason_of-in-BadFraming.ensures.some).1

pub returns-in-Body-clause-some : goal.returns-in-Body-clause-some
returns-in-Body-clause-some c =
    (body_says c.args.method c.args.limit c.args.stage.now c.in-Body.kept c.in-Body.flow (length c.as_slice-in-Body.result.now) c.body_reason.result c.in-Body.is c.requires
    (ap length c.as_slice-in-Body.ensures.value) c.body_reason.ensures.some).0

pub returns-in-Body-clause-cut : goal.returns-in-Body-clause-cut
returns-in-Body-clause-cut c =
    (body_says c.args.method c.args.limit c.args.stage.now c.in-Body.kept c.in-Body.flow (length c.as_slice-in-Body.result.now) c.body_reason.result c.in-Body.is c.requires
    (ap length c.as_slice-in-Body.ensures.value) c.body_reason.ensures.some).1
