-- What a session has taken in: bytes one after the other, and lines.
use Rattle.std.proofs.Common.{◌≡◌, ◌≢◌, ℕ, ◌+◌, ◌<◌, ◌∙◌, sym, refl, ap, subst, List, [], ◌∷◌, ◌++◌, length, append_assoc, Bool, true, false, cond, arith, length-append}
use Rattle.std.specs.Prelude.{◌==◌, Option, Result, Ok, Err, IfOk, OnOk}
use Rattle.mx_run_io.specs.declared.output.WriteFailed.{WriteFailed}
use Rattle.std.specs.Io.KnownBytes.{Appends}
use Rattle.std.proofs.KnownBytes.{Appends-nil, Appends-trans}
use Rattle.std.proofs.lemmas.Bool.{eqb-true}
use Rattle.mx_run_local.proofs.Words.{first_piece, line_long}
use Rattle.mx_run_local.specs.declared.session.Session.{Session}
use Rattle.mx_run_local.specs.declared.session.Turn.{Turn}
use Rattle.mx_run_local.specs.declared.session.Turn.TheVariants as turn
use Rattle.mx_run_local.specs.declared.script.Line.{Line}
use Rattle.mx_run_local.specs.declared.script.Line.TheVariants as line
use Rattle.mx_types.specs.declared.call.Call.{Call}
use Rattle.mx_run_local.specs.Script.{pieces, onto_first, lines_of, line_of}
use Rattle.mx_run_local.specs.Texts.{Said, said_text}
use Rattle.mx_run_local.specs.Turns.{PlayerView, says, player_past, says_retiring, past_retiring, MakesEvent}
use Rattle.mx_run_local.specs.Run.{Outcome, after, outcome, outcome_with, bad_line_text, past_line, past_lines, WantsEvent}
use Rattle.mx_run_local.specs.Session.{IsUnended, rest_of, TellsLine, EndsLine, Plays}

apart : (b : ℕ) → b ≢ 10 → (b == 10) ≡ false
apart b not_10 = go (b == 10) refl where
  go : (t : Bool) → (b == 10) ≡ t → t ≡ false
  go true e = absurd (not_10 (eqb-true b 10 e))
  go false e = refl

-- a line that ended, and one that goes on
ended : (text rest : List ℕ) → IsUnended text → lines_of (text ++ 10 ∷ rest) ≡ text ∷ lines_of rest
ended [] rest h = refl
ended (b ∷ bs) rest h =
    ap (λ t. cond t ([] ∷ pieces 10 (bs ++ 10 ∷ rest)) (onto_first b (pieces 10 (bs ++ 10 ∷ rest)))) (apart b h.0)
    ∙ ap (onto_first b) (ended bs rest h.1)

pub unended_line : (text : List ℕ) → IsUnended text → lines_of text ≡ text ∷ []
unended_line [] h = refl
unended_line (b ∷ bs) h =
    ap (λ t. cond t ([] ∷ pieces 10 bs) (onto_first b (pieces 10 bs))) (apart b h.0) ∙ ap (onto_first b) (unended_line bs h.1)

begun : (text rest : List ℕ) → IsUnended text
    → (piece : List ℕ) × (more : List (List ℕ)) × (lines_of (text ++ rest) ≡ (text ++ piece) ∷ more)
begun [] rest h = first_piece 10 rest
begun (b ∷ bs) rest h =
    let r = begun bs rest h.1 in (
      r.0,
      r.1,
      ap (λ t. cond t ([] ∷ pieces 10 (bs ++ rest)) (onto_first b (pieces 10 (bs ++ rest)))) (apart b h.0) ∙ ap (onto_first b) r.2,
    )

pub unended_push : (text : List ℕ) (b : ℕ) → IsUnended text → b ≢ 10 → IsUnended (text ++ b ∷ [])
unended_push [] b h not_10 = (not_10, tt)
unended_push (x ∷ xs) b h not_10 = (h.0, unended_push xs b h.1 not_10)

-- the run of a line and more, by what the line is
run_with : (text : List ℕ) (is : Line) (more : List (List ℕ)) (p : PlayerView) (n : ℕ) → is ≡ line_of text
    → outcome (text ∷ more) p n ≡ outcome_with p n is (λ q. outcome more q (n + 1))
unfolding outcome
run_with text is more p n e = ap (λ x. outcome_with p n x (λ q. outcome more q (n + 1))) (sym e)

-- the ways in which a line ends
pub line_silent_ends : (s t : Session) (a : Option (List ℕ)) → line.Silent ≡ line_of s.line.items → t.player ≡ s.player → t.lines ≡ s.lines + 1
    → t.line.items ≡ [] → EndsLine s turn.On t (Appends a a)
line_silent_ends s t a is player counted empty = record {
  printed = [];
  written = Appends-nil a;
  tells = record {
    player = player ∙ ap (past_line s.player) is;
    run = λ more. run_with s.line.items line.Silent more s.player (s.lines + 1) is ∙ ap (λ n. outcome more s.player (n + 1)) (sym counted)
        ∙ ap (λ p. outcome more p (t.lines + 1)) (sym player);
  };
  empty = empty;
}

pub line_call_ends : (s t : Session) (call : Call) (a b : Option (List ℕ)) → line.Call call ≡ line_of s.line.items
    → t.player ≡ player_past s.player call → t.lines ≡ s.lines + 1 → t.line.items ≡ []
    → Appends a b (said_text (says s.player call)) → EndsLine s turn.On t (Appends a b)
line_call_ends s t call a b is player counted empty written = record {
  printed = said_text (says s.player call);
  written = written;
  tells = record {
    player = player ∙ ap (past_line s.player) is;
    run = λ more. run_with s.line.items (line.Call call) more s.player (s.lines + 1) is
        ∙ ap (λ n. after (said_text (says s.player call)) (outcome more (player_past s.player call) (n + 1))) (sym counted)
        ∙ ap (λ p. after (said_text (says s.player call)) (outcome more p (t.lines + 1))) (sym player);
  };
  empty = empty;
}

pub line_retire_ends : (s t : Session) (a b : Option (List ℕ)) → line.Retire ≡ line_of s.line.items
    → t.player ≡ past_retiring s.player → t.lines ≡ s.lines + 1 → t.line.items ≡ []
    → Appends a b (said_text (says_retiring s.player)) → EndsLine s turn.On t (Appends a b)
line_retire_ends s t a b is player counted empty written = record {
  printed = said_text (says_retiring s.player);
  written = written;
  tells = record {
    player = player ∙ ap (past_line s.player) is;
    run = λ more. run_with s.line.items line.Retire more s.player (s.lines + 1) is
        ∙ ap (λ n. after (said_text (says_retiring s.player)) (outcome more (past_retiring s.player) (n + 1))) (sym counted)
        ∙ ap (λ p. after (said_text (says_retiring s.player)) (outcome more p (t.lines + 1))) (sym player);
  };
  empty = empty;
}

pub line_bad_ends : (s t : Session) (a b : Option (List ℕ)) → line.Bad ≡ line_of s.line.items
    → Appends a b (bad_line_text (s.lines + 1)) → EndsLine s turn.Bad t (Appends a b)
line_bad_ends s t a b is written = record {
  printed = bad_line_text (s.lines + 1);
  written = written;
  last = λ more. run_with s.line.items line.Bad more s.player (s.lines + 1) is;
}

pub line_stops : (s t : Session) (l : Line) (call : Call) (text : List ℕ) (a : Option (List ℕ)) → l ≡ line.Call call → l ≡ line_of text
    → text ≡ s.line.items → MakesEvent s.player call → EndsLine s turn.NoMemory t (Appends a a)
line_stops s t l call text a is its same makes =
    (Appends-nil a, subst (WantsEvent s.player) (sym is ∙ its ∙ ap line_of same) makes)

-- the same, as the code has them
pub silent_told : (s t : Session) (l : Line) (text : List ℕ) (a b : Option (List ℕ)) → l ≡ line.Silent → l ≡ line_of text → text ≡ s.line.items
    → t.player ≡ s.player → t.lines ≡ s.lines + 1 → t.line.items ≡ [] → b ≡ a → TellsLine s t (Appends a b)
silent_told s t l text a b is its same player counted empty kept =
    subst (λ z. TellsLine s t (Appends a z)) (sym kept) (line_silent_ends s t a (sym is ∙ its ∙ ap line_of same) player counted empty)

pub call_told : (s t : Session) (l : Line) (call : Call) (says_it : Said) (text : List ℕ) (a b : Option (List ℕ)) → l ≡ line.Call call → l ≡ line_of text
    → text ≡ s.line.items → says_it ≡ says s.player call → Appends a b (said_text says_it) → t.player ≡ player_past s.player call
    → t.lines ≡ s.lines + 1 → t.line.items ≡ [] → TellsLine s t (Appends a b)
call_told s t l call says_it text a b is its same told written player counted empty =
    line_call_ends s t call a b (sym is ∙ its ∙ ap line_of same) player counted empty (subst (λ z. Appends a b (said_text z)) told written)

pub retire_told : (s t : Session) (l : Line) (says_it : Said) (text : List ℕ) (a b : Option (List ℕ)) → l ≡ line.Retire → l ≡ line_of text
    → text ≡ s.line.items → says_it ≡ says_retiring s.player → Appends a b (said_text says_it) → t.player ≡ past_retiring s.player
    → t.lines ≡ s.lines + 1 → t.line.items ≡ [] → TellsLine s t (Appends a b)
retire_told s t l says_it text a b is its same told written player counted empty =
    line_retire_ends s t a b (sym is ∙ its ∙ ap line_of same) player counted empty (subst (λ z. Appends a b (said_text z)) told written)

pub bad_told : (s t : Session) (r : Result Turn WriteFailed) (l : Line) (text : List ℕ) (a b : Option (List ℕ)) → l ≡ line.Bad → l ≡ line_of text
    → text ≡ s.line.items → IfOk r (λ n. n ≡ turn.Bad) → OnOk r (Appends a b (bad_line_text (s.lines + 1))) → IfOk r (λ n. EndsLine s n t (Appends a b))
bad_told s t (Ok n) l text a b is its same bad written =
    subst (λ z. EndsLine s z t (Appends a b)) (sym bad) (line_bad_ends s t a b (sym is ∙ its ∙ ap line_of same) written)
bad_told s t (Err e) l text a b is its same bad written = tt

-- an LF ends the line
pub plays_end : (s t : Session) (next : Turn) (a b : Option (List ℕ)) → IsUnended s.line.items → EndsLine s next t (Appends a b)
    → Plays s (10 ∷ []) next t (Appends a b)
unfolding outcome
plays_end s t turn.On a b h ends = record {
  printed = ends.printed;
  written = ends.written;
  follows = record {
    told = s.line.items ∷ [];
    tells = ends.tells;
    ends = record {
      cut = λ rest. ended s.line.items rest h ∙ ap (λ z. s.line.items ∷ lines_of (z ++ rest)) (sym ends.empty);
      unended = subst IsUnended (sym ends.empty) tt;
    };
  };
}
plays_end s t turn.Bad a b h ends = record {
  printed = ends.printed;
  written = ends.written;
  follows = λ rest. ap (rest_of s) (ended s.line.items rest h) ∙ ends.last (lines_of rest);
}
plays_end s t turn.NoMemory a b h ends = record {
  printed = [];
  written = ends.0;
  follows = record {
    told = [];
    text = s.line.items;
    unanswered = λ rest. (lines_of rest, ended s.line.items rest h);
    wants = ends.1;
    run = refl;
  };
}

-- another byte is in the line
pub plays_byte : (s t : Session) (byte : ℕ) (a : Option (List ℕ)) → IsUnended s.line.items → byte ≢ 10
    → t.player ≡ s.player → t.lines ≡ s.lines → t.line.items ≡ s.line.items ++ byte ∷ [] → Plays s (byte ∷ []) turn.On t (Appends a a)
plays_byte s t byte a h not_10 player counted items = record {
  printed = [];
  written = Appends-nil a;
  follows = record {
    told = [];
    tells = record {
      player = player;
      run = λ more. ap (λ p. outcome more p (s.lines + 1)) (sym player) ∙ ap (λ n. outcome more t.player (n + 1)) (sym counted);
    };
    ends = record {
      cut = λ rest. ap lines_of (sym (append_assoc s.line.items (byte ∷ []) rest)) ∙ ap (λ z. lines_of (z ++ rest)) (sym items);
      unended = subst IsUnended (sym items) (unended_push s.line.items byte h not_10);
    };
  };
}

-- the line is too long
pub plays_long : (s t : Session) (byte : ℕ) (a b : Option (List ℕ)) → IsUnended s.line.items → byte ≢ 10 → length s.line.items ≡ 64
    → Appends a b (bad_line_text (s.lines + 1)) → Plays s (byte ∷ []) turn.Bad t (Appends a b)
plays_long s t byte a b h not_10 full written = record {
  printed = bad_line_text (s.lines + 1);
  written = written;
  follows = λ rest.
      let text = s.line.items ++ byte ∷ [] in
      let r = begun text rest (unended_push s.line.items byte h not_10) in
      let long : 64 < length (text ++ r.0) =
      omega (arith, full, length-append text r.0, length-append s.line.items (byte ∷ [])) in
      ap (λ z. rest_of s (lines_of z)) (sym (append_assoc s.line.items (byte ∷ []) rest)) ∙ ap (rest_of s) r.2
      ∙ run_with (text ++ r.0) line.Bad r.1 s.player (s.lines + 1) (line_long (text ++ r.0) long);
}

pub plays_none : (s : Session) (a : Option (List ℕ)) → IsUnended s.line.items → Plays s [] turn.On s (Appends a a)
plays_none s a h = record {
  printed = [];
  written = Appends-nil a;
  follows = record { told = []; tells = record { player = refl; run = λ more. refl }; ends = record { cut = λ rest. refl; unended = h } };
}

-- what a player has after some lines and then some more
past_all : (d e : List (List ℕ)) (p : PlayerView) → past_lines (d ++ e) p ≡ past_lines e (past_lines d p)
past_all [] e p = refl
past_all (text ∷ d) e p = past_all d e (past_line p (line_of text))

past_both : (p q r : PlayerView) (d e : List (List ℕ)) → q ≡ past_lines d p → r ≡ past_lines e q → r ≡ past_lines (d ++ e) p
past_both p q r d e first second = second ∙ ap (past_lines e) first ∙ sym (past_all d e p)

-- bytes, and then more bytes
pub plays_then : (s t u : Session) (xs ys : List ℕ) (next : Turn) (a b c : Option (List ℕ)) → Plays s xs turn.On t (Appends a b) → Plays t ys next u (Appends b c)
    → Plays s (xs ++ ys) next u (Appends a c)
plays_then s t u xs ys turn.On a b c p q =
    let d = p.follows.told in
    let e = q.follows.told in
    record {
      printed = p.printed ++ q.printed;
      written = Appends-trans a b c p.printed q.printed p.written q.written;
      follows = record {
        told = d ++ e;
        tells = record {
          player = past_both s.player t.player u.player d e p.follows.tells.player q.follows.tells.player;
          run = λ more. ap (rest_of s) (append_assoc d e more) ∙ p.follows.tells.run (e ++ more) ∙ ap (after p.printed) (q.follows.tells.run more)
              ∙ ap (λ (z : List ℕ). let o : Outcome = record { text = z; status = (rest_of u more).status } in o)
              (sym (append_assoc p.printed q.printed (rest_of u more).text));
        };
        ends = record {
          cut = λ rest. ap (λ z. lines_of (s.line.items ++ z)) (append_assoc xs ys rest) ∙ p.follows.ends.cut (ys ++ rest)
              ∙ ap (λ z. d ++ z) (q.follows.ends.cut rest) ∙ sym (append_assoc d e (lines_of (u.line.items ++ rest)));
          unended = q.follows.ends.unended;
        };
      };
    }
plays_then s t u xs ys turn.Bad a b c p q = record {
  printed = p.printed ++ q.printed;
  written = Appends-trans a b c p.printed q.printed p.written q.written;
  follows = λ rest.
      ap (λ z. rest_of s (lines_of (s.line.items ++ z))) (append_assoc xs ys rest) ∙ ap (rest_of s) (p.follows.ends.cut (ys ++ rest))
      ∙ p.follows.tells.run (lines_of (t.line.items ++ (ys ++ rest))) ∙ ap (after p.printed) (q.follows rest);
}
plays_then s t u xs ys turn.NoMemory a b c p q =
    let d = p.follows.told in
    let e = q.follows.told in
    record {
      printed = p.printed ++ q.printed;
      written = Appends-trans a b c p.printed q.printed p.written q.written;
      follows = record {
        told = d ++ e;
        text = q.follows.text;
        unanswered = λ rest.
            let r = q.follows.unanswered rest in (
              r.0,
              ap (λ z. lines_of (s.line.items ++ z)) (append_assoc xs ys rest) ∙ p.follows.ends.cut (ys ++ rest) ∙ ap (λ z. d ++ z) r.1
                  ∙ sym (append_assoc d e (q.follows.text ∷ r.0)),
            );
        wants = subst (λ z. WantsEvent z (line_of q.follows.text))
            (past_both s.player t.player (past_lines e t.player) d e p.follows.tells.player refl) q.follows.wants;
        run = p.follows.tells.run e ∙ ap (after p.printed) q.follows.run;
      };
    }

-- what follows the end of a run is not read
pub plays_further : (s t : Session) (xs ys : List ℕ) (next : Turn) (a b : Option (List ℕ)) → next ≢ turn.On → Plays s xs next t (Appends a b)
    → Plays s (xs ++ ys) next t (Appends a b)
plays_further s t xs ys turn.On a b over p = absurd (over refl)
plays_further s t xs ys turn.Bad a b over p = record {
  printed = p.printed;
  written = p.written;
  follows = λ rest. ap (λ z. rest_of s (lines_of (s.line.items ++ z))) (append_assoc xs ys rest) ∙ p.follows (ys ++ rest);
}
plays_further s t xs ys turn.NoMemory a b over p = record {
  printed = p.printed;
  written = p.written;
  follows = record {
    told = p.follows.told;
    text = p.follows.text;
    unanswered = λ rest.
        let r = p.follows.unanswered (ys ++ rest) in (r.0, ap (λ z. lines_of (s.line.items ++ z)) (append_assoc xs ys rest) ∙ r.1);
    wants = p.follows.wants;
    run = p.follows.run;
  };
}

pub ended_told : (s t : Session) (byte : ℕ) (r : Result Turn WriteFailed) (a b : Option (List ℕ)) → IsUnended s.line.items → byte ≡ 10
    → IfOk r (λ n. EndsLine s n t (Appends a b)) → IfOk r (λ n. Plays s (byte ∷ []) n t (Appends a b))
ended_told s t byte (Ok n) a b h is_10 ends = subst (λ z. Plays s (z ∷ []) n t (Appends a b)) (sym is_10) (plays_end s t n a b h ends)
ended_told s t byte (Err e) a b h is_10 ends = tt

pub long_told : (s t : Session) (byte : ℕ) (r : Result Turn WriteFailed) (a b : Option (List ℕ)) → IsUnended s.line.items → byte ≢ 10
    → length s.line.items ≡ 64 → IfOk r (λ n. n ≡ turn.Bad) → OnOk r (Appends a b (bad_line_text (s.lines + 1)))
    → IfOk r (λ n. Plays s (byte ∷ []) n t (Appends a b))
long_told s t byte (Ok n) a b h not_10 full bad written = subst (λ z. Plays s (byte ∷ []) z t (Appends a b)) (sym bad) (plays_long s t byte a b h not_10 full written)
long_told s t byte (Err e) a b h not_10 full bad written = tt
