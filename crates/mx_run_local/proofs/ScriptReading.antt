-- A script that is read in pieces: what was played of it, and how that ends.
use Rattle.std.proofs.Common.{◌≡◌, ◌≢◌, ℕ, ◌+◌, ◌<◌, ◌∙◌, sym, refl, ap, subst, List, [], ◌∷◌, ◌++◌, length, take, append-nil, drop, get_or, take-append-drop}
use Rattle.std.specs.Prelude.{Option, Some, None}
use Rattle.std.specs.Io.KnownBytes.{Appends, Consumes, Keeps, IsAtEnd}
use Rattle.std.proofs.KnownBytes.{Appends-kept, Appends-trans, Consumes-trans, Consumes-kept}
use Rattle.mx_run_local.specs.declared.session.Session.{Session}
use Rattle.mx_run_local.specs.declared.session.Turn.{Turn}
use Rattle.mx_run_local.specs.declared.session.Turn.TheVariants as turn
use Rattle.mx_run_local.specs.Script.{lines_of, line_of}
use Rattle.mx_run_local.specs.Run.{after, outcome, IsScript, WantsEvent}
use Rattle.mx_run_local.specs.Session.{IsUnended, rest_of, ran, EndsLine, Plays, PlaysAll}
use Rattle.std.proofs.lemmas.List.{take_more}
use Rattle.mx_run_local.proofs.Sessions.{unended_line, plays_then, plays_none, plays_further}

-- so much of the script was read, and the session has taken it in
pub record HasPlayed (s t : Session) (known left old new : Option (List ℕ)) : Type 0 where
  pub seen : List ℕ
  pub given : Consumes known left seen
  pub played : Plays s seen turn.On t (Appends old new)

pub begins : (s : Session) (known old : Option (List ℕ)) → s.line.items ≡ [] → HasPlayed s s known known old old
begins s known old empty = record { seen = []; given = none known; played = plays_none s old (subst IsUnended (sym empty) tt) } where
  none : (a : Option (List ℕ)) → Consumes a a []
  none None = tt
  none (Some xs) = refl

-- another read, which is flushed
pub goes_on : (s t u : Session) (known mid left old a b c : Option (List ℕ)) (bytes : List ℕ) → HasPlayed s t known mid old a
    → Consumes mid left bytes → Plays t bytes turn.On u (Appends a b) → Keeps b c → HasPlayed s u known left old c
goes_on s t u known mid left old a b c bytes p given more kept =
    let q = plays_then s t u p.seen bytes turn.On old a b p.played more in
    record {
      seen = p.seen ++ bytes;
      given = Consumes-trans known mid left p.seen bytes p.given given;
      played = record { printed = q.printed; written = Appends-kept old b c q.printed q.written kept; follows = q.follows };
    }

-- the lines of what was taken in
lines_seen : (s t : Session) (known left old new : Option (List ℕ)) (p : HasPlayed s t known left old new)
    → lines_of (s.line.items ++ p.seen) ≡ p.played.follows.told ++ t.line.items ∷ []
lines_seen s t known left old new p =
    let told = p.played.follows.told in
    ap (λ z. lines_of (s.line.items ++ z)) (sym (append-nil p.seen)) ∙ p.played.follows.ends.cut []
    ∙ ap (λ z. told ++ lines_of z) (append-nil t.line.items)
    ∙ ap (λ z. told ++ z) (unended_line t.line.items p.played.follows.ends.unended)

ran_ended : (printed : List ℕ) (status : ℕ) → ran (printed ++ []) status ≡ ran printed status
ran_ended printed status = ap (λ z. ran z status) (append-nil printed)

ran_told : (s t : Session) (known left old new : Option (List ℕ)) (p : HasPlayed s t known left old new)
    → rest_of s p.played.follows.told ≡ ran p.played.printed 0
unfolding outcome
ran_told s t known left old new p =
    ap (rest_of s) (sym (append-nil p.played.follows.told)) ∙ p.played.follows.tells.run [] ∙ ran_ended p.played.printed 0

-- a script that begins with what was read
script_from : (known left : Option (List ℕ)) (front : List ℕ) → Consumes known left front → (rest : List ℕ) × IsScript known (front ++ rest)
script_from None left front a = ([], tt)
script_from (Some xs) None front a = absurd a
script_from (Some xs) (Some ys) front a = (ys, a)

-- a read failed
pub unread : (s t : Session) (known mid left old a : Option (List ℕ)) → HasPlayed s t known mid old a → Keeps mid left → PlaysAll s None known left (Appends old a)
unread s t known mid left old a p kept = record {
  front = p.seen;
  given = Consumes-kept known mid left p.seen p.given kept;
  told = p.played.follows.told;
  last = t.line.items;
  cut = lines_seen s t known mid old a p;
  printed = p.played.printed;
  run = ran_told s t known mid old a p;
  written = p.played.written;
}

-- the run ended within what was read
pub turned : (s t u : Session) (next : Turn) (known mid left old a b : Option (List ℕ)) (bytes : List ℕ) → HasPlayed s t known mid old a
    → Consumes mid left bytes → Plays t bytes next u (Appends a b) → next ≢ turn.On → PlaysAll s (Some next) known left (Appends old b)
turned s t u turn.On known mid left old a b bytes p given more over = absurd (over refl)
turned s t u turn.Bad known mid left old a b bytes p given more over =
    let q = plays_then s t u p.seen bytes turn.Bad old a b p.played more in
    let r = script_from known left (p.seen ++ bytes) (Consumes-trans known mid left p.seen bytes p.given given) in
    record { script = (p.seen ++ bytes) ++ r.0; is_it = r.1; printed = q.printed; run = q.follows r.0; written = q.written }
turned s t u turn.NoMemory known mid left old a b bytes p given more over =
    let q = plays_then s t u p.seen bytes turn.NoMemory old a b p.played more in
    let r = script_from known left (p.seen ++ bytes) (Consumes-trans known mid left p.seen bytes p.given given) in
    let k = q.follows.unanswered r.0 in
    record {
      script = (p.seen ++ bytes) ++ r.0;
      is_it = r.1;
      told = q.follows.told;
      unanswered = q.follows.text;
      more = k.0;
      cut = k.1;
      wants = q.follows.wants;
      printed = q.printed;
      run = q.follows.run;
      written = q.written;
    }

-- the script ended, and with it its last line
pub script_ended : (s t u : Session) (next : Turn) (known left old a b : Option (List ℕ)) (p : HasPlayed s t known left old a) → IsScript known p.seen
    → EndsLine t next u (Appends a b) → PlaysAll s (Some next) known left (Appends old b)
unfolding outcome
script_ended s t u turn.On known left old a b p whole ends = record {
  script = p.seen;
  is_it = whole;
  printed = p.played.printed ++ ends.printed;
  run = ap (rest_of s) (lines_seen s t known left old a p) ∙ p.played.follows.tells.run (t.line.items ∷ [])
      ∙ ap (after p.played.printed) (ends.tells.run [] ∙ ran_ended ends.printed 0);
  written = Appends-trans old a b p.played.printed ends.printed p.played.written ends.written;
}
script_ended s t u turn.Bad known left old a b p whole ends = record {
  script = p.seen;
  is_it = whole;
  printed = p.played.printed ++ ends.printed;
  run = ap (rest_of s) (lines_seen s t known left old a p) ∙ p.played.follows.tells.run (t.line.items ∷ [])
      ∙ ap (after p.played.printed) (ends.last []);
  written = Appends-trans old a b p.played.printed ends.printed p.played.written ends.written;
}
script_ended s t u turn.NoMemory known left old a b p whole ends = record {
  script = p.seen;
  is_it = whole;
  told = p.played.follows.told;
  unanswered = t.line.items;
  more = [];
  cut = lines_seen s t known left old a p;
  wants = subst (λ z. WantsEvent z (line_of t.line.items)) p.played.follows.tells.player ends.1;
  printed = p.played.printed;
  run = ran_told s t known left old a p;
  written = subst (Appends old b) (append-nil p.played.printed) (Appends-trans old a b p.played.printed [] p.played.written ends.0);
}

-- the last read gave nothing
kept_left : (known mid left : Option (List ℕ)) (seen got : List ℕ) → Consumes known mid seen → Consumes mid left got → got ≡ [] → Consumes known left seen
kept_left known mid left seen got a b none =
    subst (Consumes known left) (append-nil seen) (Consumes-trans known mid left seen [] a (subst (Consumes mid left) none b))

pub at_end : (s t u : Session) (next : Turn) (known mid left old a b : Option (List ℕ)) (buffer : List ℕ) (count : ℕ)
    → HasPlayed s t known mid old a → Consumes mid left (take count buffer) × (count ≡ 0 → 0 < length buffer → IsAtEnd left)
    → count ≡ 0 → 0 < length buffer → EndsLine t next u (Appends a b) → PlaysAll s (Some next) known left (Appends old b)
at_end s t u next known mid left old a b buffer count p gave none room ends =
    let nothing : take count buffer ≡ [] = rw none refl in
    let given = kept_left known mid left p.seen (take count buffer) p.given gave.0 nothing in
    let q : HasPlayed s t known left old a = record { seen = p.seen; given = given; played = p.played } in
    script_ended s t u next known left old a b q (whole known left p.seen given (gave.1 none room)) ends where
      whole : (known left : Option (List ℕ)) (seen : List ℕ) → Consumes known left seen → IsAtEnd left → IsScript known seen
      whole None left seen a end = tt
      whole (Some xs) None seen a end = absurd a
      whole (Some xs) (Some ys) seen a end = a ∙ ap (λ z. seen ++ z) end ∙ append-nil seen

-- one byte after the other
took : (s t u : Session) (next : Turn) (bytes : List ℕ) (i d : ℕ) (old a b : Option (List ℕ)) → i < length bytes
    → Plays s (take i bytes) turn.On t (Appends old a) → Plays t (get_or bytes i d ∷ []) next u (Appends a b) → Plays s (take (i + 1) bytes) next u (Appends old b)
took s t u next bytes i d old a b below p q =
    subst (λ z. Plays s z next u (Appends old b)) (sym (take_more bytes i d below))
    (plays_then s t u (take i bytes) (get_or bytes i d ∷ []) next old a b p q)

pub took_as : (s t u : Session) (next : Turn) (bytes : List ℕ) (i d : ℕ) (old a b : Option (List ℕ)) → i < length bytes
    → Plays s (take i bytes) turn.On t (Appends old a) → Plays t (get_or bytes i d ∷ []) next u (Appends a b) → next ≡ turn.On → Plays s (take (i + 1) bytes) turn.On u (Appends old b)
took_as s t u next bytes i d old a b below p q is =
    subst (λ z. Plays s (take (i + 1) bytes) z u (Appends old b)) is (took s t u next bytes i d old a b below p q)

pub bad_over : turn.Bad ≢ turn.On
bad_over e = cc

pub short_over : turn.NoMemory ≢ turn.On
short_over e = cc

pub took_last : (s t u : Session) (next last : Turn) (bytes : List ℕ) (i d : ℕ) (old a b : Option (List ℕ)) → i < length bytes
    → Plays s (take i bytes) turn.On t (Appends old a) → Plays t (get_or bytes i d ∷ []) next u (Appends a b) → next ≡ last → last ≢ turn.On
    → Plays s bytes last u (Appends old b)
took_last s t u next last bytes i d old a b below p q is over =
    let r = subst (λ z. Plays s (take (i + 1) bytes) z u (Appends old b)) is (took s t u next bytes i d old a b below p q) in
    subst (λ z. Plays s z last u (Appends old b)) (take-append-drop (i + 1) bytes)
    (plays_further s u (take (i + 1) bytes) (drop (i + 1) bytes) last old b over r)

pub turned_as : (s t u : Session) (next last : Turn) (known mid left old a b : Option (List ℕ)) (bytes : List ℕ) → HasPlayed s t known mid old a
    → Consumes mid left bytes → Plays t bytes next u (Appends a b) → next ≡ last → last ≢ turn.On → PlaysAll s (Some last) known left (Appends old b)
turned_as s t u next last known mid left old a b bytes p given more is over =
    turned s t u last known mid left old a b bytes p given (subst (λ z. Plays t bytes z u (Appends a b)) is more) over

pub goes_on_as : (s t u : Session) (next : Turn) (known mid left old a b c : Option (List ℕ)) (bytes : List ℕ) → HasPlayed s t known mid old a
    → Consumes mid left bytes → Plays t bytes next u (Appends a b) → next ≡ turn.On → Keeps b c → HasPlayed s u known left old c
goes_on_as s t u next known mid left old a b c bytes p given more is kept =
    goes_on s t u known mid left old a b c bytes p given (subst (λ z. Plays t bytes z u (Appends a b)) is more) kept
