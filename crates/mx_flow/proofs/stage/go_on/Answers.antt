use Rattle.std.proofs.Common.{List, ℕ, ◌-◌, length, ap, subst}
use Rattle.mx_body.specs.Steps.{IsFinalStepOn}
use Rattle.mx_flow.specs.declared.stream_state.StreamState.TheVariants as stand
use Rattle.mx_flow.proofs.StageProofs.{ends_behind, heads_taken}
use Rattle.mx_flow.proofs.stage.go_on.Goals as goal

pub begin-requires-clause-behind : goal.begin-requires-clause-behind
begin-requires-clause-behind c =
    ends_behind c.args.heads c.args.len c.in-Head.head c.in-Head.end c.requires.open.0 c.requires.within (subst (IsFinalStepOn c.args.heads) c.in-Head.is c.requires.step)

pub begin-requires-clause-head : goal.begin-requires-clause-head
begin-requires-clause-head c = subst (IsFinalStepOn c.args.heads) c.in-Head.is c.requires.step

pub returns-in-More-clause-stage : goal.returns-in-More-clause-stage
returns-in-More-clause-stage c = subst (IsFinalStepOn c.args.heads) c.in-More.is c.requires.step

pub returns-in-More-clause-taken : goal.returns-in-More-clause-taken
returns-in-More-clause-taken c =
    heads_taken c.args.method c.args.limit c.args.heads c.args.len _ stand.More c.args.out.now.items c.requires.within (ap (λ (t : List ℕ). length t - c.args.len) c.as_slice.ensures)

pub returns-in-Fault-clause-stage : goal.returns-in-Fault-clause-stage
returns-in-Fault-clause-stage c = subst (IsFinalStepOn c.args.heads) c.in-Fault.is c.requires.step

pub returns-in-Fault-clause-taken : goal.returns-in-Fault-clause-taken
returns-in-Fault-clause-taken c =
    heads_taken c.args.method c.args.limit c.args.heads c.args.len _ (stand.Fault c.in-Fault.code) c.args.out.now.items c.requires.within (ap (λ (t : List ℕ). length t - c.args.len) c.as_slice.ensures)
