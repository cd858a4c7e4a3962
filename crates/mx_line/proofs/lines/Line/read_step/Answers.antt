use Rattle.std.proofs.Common.{refl, sym, ap, ◌∙◌}
use Rattle.mx_line.specs.Lines.{LineState}
use Rattle.mx_line.proofs.Steps.{going_same, grows_by, Turn-passed, Turn-failed, Turn-whole, Turn-bad, Turn-heard, Turn-lost_bytes, Turn-lost_end, Turn-ended_whole, Turn-ended_bad, Turn-ended_retry, Turn-failed_retry}
use Rattle.mx_line.proofs.lines.Line.read_step.Goals as goal

pub returns-in-None-clause-turn : goal.returns-in-None-clause-turn
returns-in-None-clause-turn g c =
    let p = c.in-None.ensures.passed refl in
    Turn-passed _ _ _ c.requires.going c.read_on.ensures.stands p.piece _ p.fed p.exact p.grows _ _ refl c.step_at.ensures

pub returns-in-Ok-More-clause-turn : goal.returns-in-Ok-More-clause-turn
returns-in-Ok-More-clause-turn g c = Turn-heard _ _ _ (going_same _ _ _ _ c.in-Some-Bytes.ensures.same.0 c.requires.going) c.read_on.ensures.stands _ _ c.in-Ok-More.ensures.fed c.in-Ok-More.ensures.exact (grows_by c.args.self.now c.read_on.new.self _ _ _ c.in-Some-Bytes.field-0-is c.in-Some-Bytes.ensures.grows) (sym c.in-Ok-More.field-0-is ∙ c.in-Ok-More.ensures.stand)

pub returns-in-Ok-Complete-clause-turn : goal.returns-in-Ok-Complete-clause-turn
returns-in-Ok-Complete-clause-turn g c = Turn-whole _ _ _ (going_same _ _ _ _ c.in-Some-Bytes.ensures.same.0 c.requires.going) c.read_on.ensures.stands _ _ c.in-Ok-Complete.ensures.fed c.in-Ok-Complete.ensures.exact (grows_by c.args.self.now c.read_on.new.self _ _ _ c.in-Some-Bytes.field-0-is c.in-Some-Bytes.ensures.grows) (sym c.in-Ok-Complete.field-0-is ∙ c.in-Ok-Complete.ensures.stand)

pub returns-in-Ok-Fault-clause-turn : goal.returns-in-Ok-Fault-clause-turn
returns-in-Ok-Fault-clause-turn g c = Turn-bad _ _ _ (going_same _ _ _ _ c.in-Some-Bytes.ensures.same.0 c.requires.going) c.read_on.ensures.stands _ _ c.in-Ok-Fault.ensures.fed c.in-Ok-Fault.ensures.exact (grows_by c.args.self.now c.read_on.new.self _ _ _ c.in-Some-Bytes.field-0-is c.in-Some-Bytes.ensures.grows) c.in-Ok-Fault.code (sym c.in-Ok-Fault.field-0-is ∙ c.in-Ok-Fault.ensures.stand)

pub returns-in-Err-clause-turn : goal.returns-in-Err-clause-turn
returns-in-Err-clause-turn g c = Turn-lost_bytes _ _ _ (going_same _ _ _ _ c.in-Some-Bytes.ensures.same.0 c.requires.going) c.read_on.ensures.stands _ _ c.in-Err.ensures.refused.0 (grows_by c.args.self.now c.read_on.new.self _ _ _ c.in-Some-Bytes.field-0-is c.in-Some-Bytes.ensures.grows)

pub returns-then-may_retry-clause-turn : goal.returns-then-may_retry-clause-turn
returns-then-may_retry-clause-turn g c = Turn-ended_retry _ _ _ (going_same _ _ _ _ c.in-Some-End.ensures.same.0 c.requires.going) c.read_on.ensures.stands (rw (c.method.ensures, c.is_reused.ensures, ap (λ (l : LineState _). l.is_reused) c.in-Some-End.ensures.grows, ← c.requires.about) at (c.if-may_retry.ensures.0 refl)) (grows_by c.args.self.now c.read_on.new.self _ _ _ c.in-Some-End.field-0-is c.in-Some-End.ensures.grows)

pub returns-then-may_retry-2-clause-turn : goal.returns-then-may_retry-2-clause-turn
returns-then-may_retry-2-clause-turn g c = Turn-failed_retry _ _ _ (going_same _ _ _ _ c.in-Some-Fault.ensures.same.0 c.requires.going) c.read_on.ensures.stands (rw (c.method-in-Some-Fault.ensures, c.is_reused-in-Some-Fault.ensures, ap (λ (l : LineState _). l.is_reused) c.in-Some-Fault.ensures.grows, ← c.requires.about) at (c.if-may_retry-2.ensures.0 refl)) (grows_by c.args.self.now c.read_on.new.self _ _ _ c.in-Some-Fault.field-0-is c.in-Some-Fault.ensures.grows)

pub returns-else-may_retry-2-clause-turn : goal.returns-else-may_retry-2-clause-turn
returns-else-may_retry-2-clause-turn g c = Turn-failed _ _ _ (going_same _ _ _ _ c.in-Some-Fault.ensures.same.0 c.requires.going) c.read_on.ensures.stands (λ h. let x = c.if-may_retry-2.ensures.1 (rw (c.method-in-Some-Fault.ensures, c.is_reused-in-Some-Fault.ensures, ap (λ (l : LineState _). l.is_reused) c.in-Some-Fault.ensures.grows, ← c.requires.about) h) in cc) (grows_by c.args.self.now c.read_on.new.self _ _ _ c.in-Some-Fault.field-0-is c.in-Some-Fault.ensures.grows)

pub returns-in-Ok-Complete-end-clause-turn : goal.returns-in-Ok-Complete-end-clause-turn
returns-in-Ok-Complete-end-clause-turn g c =
    let going = going_same _ _ _ _ c.in-Some-End.ensures.same.0 c.requires.going in
    Turn-ended_whole _ _ _ going c.read_on.ensures.stands (λ h. let x = c.if-may_retry.ensures.1 (rw (c.method.ensures, c.is_reused.ensures, ap (λ (l : LineState _). l.is_reused) c.in-Some-End.ensures.grows, ← c.requires.about) h) in cc) _ (c.in-Ok-Complete-end.ensures.ended going.more) c.in-Ok-Complete-end.ensures.exact (grows_by c.args.self.now c.read_on.new.self _ _ _ c.in-Some-End.field-0-is c.in-Some-End.ensures.grows) (sym c.in-Ok-Complete-end.field-0-is ∙ c.in-Ok-Complete-end.ensures.stand)

pub returns-in-Ok-Fault-end-clause-turn : goal.returns-in-Ok-Fault-end-clause-turn
returns-in-Ok-Fault-end-clause-turn g c =
    let going = going_same _ _ _ _ c.in-Some-End.ensures.same.0 c.requires.going in
    Turn-ended_bad _ _ _ going c.read_on.ensures.stands (λ h. let x = c.if-may_retry.ensures.1 (rw (c.method.ensures, c.is_reused.ensures, ap (λ (l : LineState _). l.is_reused) c.in-Some-End.ensures.grows, ← c.requires.about) h) in cc) _ (c.in-Ok-Fault-end.ensures.ended going.more) c.in-Ok-Fault-end.ensures.exact (grows_by c.args.self.now c.read_on.new.self _ _ _ c.in-Some-End.field-0-is c.in-Some-End.ensures.grows) c.in-Ok-Fault-end.code (sym c.in-Ok-Fault-end.field-0-is ∙ c.in-Ok-Fault-end.ensures.stand)

pub returns-in-Err-end-clause-turn : goal.returns-in-Err-end-clause-turn
returns-in-Err-end-clause-turn g c = Turn-lost_end _ _ _ (going_same _ _ _ _ c.in-Some-End.ensures.same.0 c.requires.going) c.read_on.ensures.stands (λ h. let x = c.if-may_retry.ensures.1 (rw (c.method.ensures, c.is_reused.ensures, ap (λ (l : LineState _). l.is_reused) c.in-Some-End.ensures.grows, ← c.requires.about) h) in cc) _ c.in-Err-end.ensures.refused (grows_by c.args.self.now c.read_on.new.self _ _ _ c.in-Some-End.field-0-is c.in-Some-End.ensures.grows)
