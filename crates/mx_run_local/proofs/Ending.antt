-- What a run of a script has printed in the end.
use Rattle.std.proofs.Common.{◌≡◌, ℕ, ◌+◌, ◌∙◌, sym, ap, subst, List, [], ◌++◌, inl, inr}
use Rattle.std.specs.Prelude.{Option, Some, None, Result, Ok, Err, IfOk}
use Rattle.std.specs.Io.KnownBytes.{Appends}
use Rattle.std.proofs.KnownBytes.{Appends-trans}
use Rattle.mx_run_local.specs.declared.session.Session.{Session}
use Rattle.mx_run_local.specs.declared.session.Turn.{Turn}
use Rattle.mx_run_local.specs.declared.session.Turn.TheVariants as turn
use Rattle.mx_run_io.specs.Faults.{fault_line, PrintsFault}
use Rattle.mx_run_local.specs.Script.{line_of, lines_of}
use Rattle.mx_run_local.specs.Turns.{PlayerView}
use Rattle.mx_run_local.specs.Run.{Outcome, outcome, run_of_lines, run_of, PrintsRun, PrintsUnread, PrintsNoMemory, AnswersScript, past_lines, WantsEvent}
use Rattle.mx_run_local.specs.Session.{rest_of, ran, RanWhole, RanShort, RanUnread, PlaysAll}

-- a session that begins, with that player
pub record Begins (p : PlayerView) (s : Session) : Type 0 where
  pub player : s.player ≡ p
  pub first : s.lines ≡ 0
  pub empty : s.line.items ≡ []

from_first : (p : PlayerView) (s : Session) → Begins p s → (texts : List (List ℕ)) → rest_of s texts ≡ run_of_lines p texts
from_first p s b texts =
    ap (λ q. outcome texts q (s.lines + 1)) b.player ∙ ap (λ n. outcome texts p (n + 1)) b.first

cut_from : (p : PlayerView) (s : Session) → Begins p s → (script : List ℕ) → lines_of script ≡ lines_of (s.line.items ++ script)
cut_from p s b script = ap (λ z. lines_of (z ++ script)) (sym b.empty)

pub prints_run : (p : PlayerView) (s : Session) (status : ℕ) (known old new : Option (List ℕ)) → Begins p s
    → RanWhole s status known (Appends old new) → PrintsRun p known (Appends old new) status
prints_run p s status known old new b w =
    let is : run_of p w.script ≡ ran w.printed status =
    ap (run_of_lines p) (cut_from p s b w.script) ∙ sym (from_first p s b (lines_of (s.line.items ++ w.script))) ∙ w.run in
    record {
      script = w.script;
      is_it = w.is_it;
      written = subst (Appends old new) (sym (ap (λ (o : Outcome). o.text) is)) w.written;
      status = sym (ap (λ (o : Outcome). o.status) is);
    }

-- the fault after the lines that were printed
told_fault : (p : PlayerView) (s : Session) (told : List (List ℕ)) (printed fault : List ℕ) (old mid new : Option (List ℕ)) → Begins p s
    → rest_of s told ≡ ran printed 0 → Appends old mid printed → Appends mid new fault
    → ((run_of_lines p told).status ≡ 0) × Appends old new ((run_of_lines p told).text ++ fault)
told_fault p s told printed fault old mid new b run written more =
    let is : run_of_lines p told ≡ ran printed 0 = sym (from_first p s b told) ∙ run in (
      ap (λ (o : Outcome). o.status) is,
      subst (λ z. Appends old new (z ++ fault)) (sym (ap (λ (o : Outcome). o.text) is)) (Appends-trans old mid new printed fault written more),
    )

prints_short : (p : PlayerView) (s : Session) (known old mid new : Option (List ℕ)) (n : ℕ) → Begins p s
    → RanShort s known (Appends old mid) → PrintsFault 27 (Appends mid new) n → PrintsNoMemory p known (Appends old new) n
prints_short p s known old mid new n b w fault =
    let k = told_fault p s w.told w.printed (fault_line 27) old mid new b w.run w.written fault.written in
    record {
      script = w.script;
      is_it = w.is_it;
      told = w.told;
      unanswered = w.unanswered;
      more = w.more;
      cut = cut_from p s b w.script ∙ w.cut;
      good = k.0;
      wants = subst (λ z. WantsEvent (past_lines w.told z) (line_of w.unanswered)) b.player w.wants;
      written = k.1;
      status = fault.status;
    }

pub prints_unread : {E : Type 0} (p : PlayerView) (s : Session) (known left old mid new : Option (List ℕ)) (r : Result ℕ E) → Begins p s
    → RanUnread s known left (Appends old mid) → IfOk r (PrintsFault 56 (Appends mid new)) → IfOk r (PrintsUnread p known left (Appends old new))
prints_unread p s known left old mid new (Ok n) b w fault =
    let k = told_fault p s w.told w.printed (fault_line 56) old mid new b w.run w.written fault.written in
    record {
      front = w.front;
      given = w.given;
      told = w.told;
      last = w.last;
      cut = cut_from p s b w.front ∙ w.cut;
      good = k.0;
      written = k.1;
      status = fault.status;
    }
prints_unread p s known left old mid new (Err e) b w fault = tt

-- memory for the player was refused
pub prints_nothing : {E : Type 0} (p : PlayerView) (before after : ℕ) (known old new : Option (List ℕ)) (r : Result ℕ E) → after ≡ before
    → IfOk r (PrintsFault 27 (Appends old new)) → IfOk r (AnswersScript p before after known (Appends old new))
prints_nothing p before after known old new (Ok n) unread fault = inr (inr (record { unread = unread; printed = fault }))
prints_nothing p before after known old new (Err e) unread fault = tt

-- the same, as the code has them
pub whole_as : (p : PlayerView) (before after : ℕ) (s : Session) (o : Option Turn) (last : Turn) (status : ℕ) (known left old new : Option (List ℕ)) → Begins p s
    → PlaysAll s o known left (Appends old new) → o ≡ Some last → (PlaysAll s (Some last) known left (Appends old new) → RanWhole s status known (Appends old new))
    → AnswersScript p before after known (Appends old new) status
whole_as p before after s o last status known left old new b w is its =
    inl (prints_run p s status known old new b (its (subst (λ z. PlaysAll s z known left (Appends old new)) is w)))

pub short_as : {E : Type 0} (p : PlayerView) (before after : ℕ) (s : Session) (o : Option Turn) (known left old mid new : Option (List ℕ)) (r : Result ℕ E) → Begins p s
    → PlaysAll s o known left (Appends old mid) → o ≡ Some turn.NoMemory → IfOk r (PrintsFault 27 (Appends mid new)) → IfOk r (AnswersScript p before after known (Appends old new))
short_as p before after s o known left old mid new (Ok n) b w is fault =
    inr (inl (prints_short p s known old mid new n b (subst (λ z. PlaysAll s z known left (Appends old mid)) is w) fault))
short_as p before after s o known left old mid new (Err e) b w is fault = tt

pub unread_as : {E : Type 0} (p : PlayerView) (s : Session) (o : Option Turn) (known left old mid new : Option (List ℕ)) (r : Result ℕ E) → Begins p s
    → PlaysAll s o known left (Appends old mid) → o ≡ None → IfOk r (PrintsFault 56 (Appends mid new)) → IfOk r (PrintsUnread p known left (Appends old new))
unread_as p s o known left old mid new r b w is fault =
    prints_unread p s known left old mid new r b (subst (λ z. PlaysAll s z known left (Appends old mid)) is w) fault
