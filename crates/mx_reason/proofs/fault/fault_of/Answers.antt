use Rattle.std.proofs.Common.{subst}
use Rattle.mx_reason.specs.Steps.{IsWalked}
use Rattle.mx_reason.proofs.Meeting.{long}
use Rattle.mx_reason.proofs.Telling.{refused_head, told_in_head, refused_whole, refused_body, told_in_body}
use Rattle.mx_reason.proofs.fault.fault_of.Goals as goal

pub returns-then-bytes-gt-MOST_BYTES-clause-code : goal.returns-then-bytes-gt-MOST_BYTES-clause-code
returns-then-bytes-gt-MOST_BYTES-clause-code c = (long c.args.method c.args.bytes.now c.args.code c.requires c.if-bytes-gt-MOST_BYTES.true).1

pub fault_in_head-requires : goal.fault_in_head-requires
fault_in_head-requires c =
    refused_head c.args.method c.args.bytes.now c.in-Open.start c.args.code (subst (IsWalked c.args.bytes.now) c.in-Open.is c.walk.ensures) c.requires c.if-bytes-gt-MOST_BYTES.false

pub fault_in_body-requires : goal.fault_in_body-requires
fault_in_body-requires c =
    refused_body c.args.method c.args.bytes.now c.in-Final.head c.in-Final.end c.args.code (subst (IsWalked c.args.bytes.now) c.in-Final.is c.walk.ensures) c.requires c.if-bytes-gt-MOST_BYTES.false

pub returns-in-Open-clause-tells : goal.returns-in-Open-clause-tells
returns-in-Open-clause-tells c =
    told_in_head c.args.method c.args.bytes.now c.in-Open.start c.fault_in_head.result (subst (IsWalked c.args.bytes.now) c.in-Open.is c.walk.ensures) c.fault_in_head.ensures.tells

pub returns-in-Refused-clause-code : goal.returns-in-Refused-clause-code
returns-in-Refused-clause-code c =
    (refused_whole c.args.method c.args.bytes.now c.in-Refused.end c.args.code (subst (IsWalked c.args.bytes.now) c.in-Refused.is c.walk.ensures) c.requires c.if-bytes-gt-MOST_BYTES.false).0

pub returns-in-Refused-clause-tells : goal.returns-in-Refused-clause-tells
returns-in-Refused-clause-tells c =
    (refused_whole c.args.method c.args.bytes.now c.in-Refused.end c.args.code (subst (IsWalked c.args.bytes.now) c.in-Refused.is c.walk.ensures) c.requires c.if-bytes-gt-MOST_BYTES.false).1

pub returns-in-Final-clause-tells : goal.returns-in-Final-clause-tells
returns-in-Final-clause-tells c =
    told_in_body c.args.method c.args.bytes.now c.in-Final.head c.in-Final.end c.fault_in_body.result (subst (IsWalked c.args.bytes.now) c.in-Final.is c.walk.ensures) c.fault_in_body.ensures.tells
