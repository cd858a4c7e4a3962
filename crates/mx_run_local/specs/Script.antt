-- The lines of a script for `mxfetch play`, and what they are.
use Rattle.std.specs.Prelude.{◌≡◌, ◌≢◌, ℕ, ◌+◌, ◌*◌, ◌-◌, ◌==◌, ◌&&◌, nat_eq, nat_lt, nat_le, Bool, true, false, if◌then◌else◌, List, [], ◌∷◌, length, fold, codes, Option, Some, None, option_and_then}
use Rattle.std.specs.List.{find, list_all}
use Rattle.std.specs.Char.{is_ascii_digit}
use Rattle.std.specs.Cmp.Lexicographic.{pointwise}
use Rattle.mx_types.specs.Code.{code_number}
use Rattle.mx_types.specs.declared.code.Code.{Code}
use Rattle.mx_types.specs.declared.code.Code.TheVariants as code
use Rattle.mx_types.specs.declared.names.HandleId.{HandleId}
use Rattle.mx_types.specs.declared.names.Ticket.{Ticket}
use Rattle.mx_types.specs.declared.call.Call.{Call}
use Rattle.mx_types.specs.declared.call.Call.TheVariants as call
use Rattle.mx_run_local.specs.declared.script.Name.{Name}
use Rattle.mx_run_local.specs.declared.script.Name.TheVariants as name
use Rattle.mx_run_local.specs.declared.script.Line.{Line}
use Rattle.mx_run_local.specs.declared.script.Line.TheVariants as line

-- a text cut at each byte c: one piece more than there are such bytes
abbrev pub onto_first : ℕ → List (List ℕ) → List (List ℕ)
onto_first b [] = []
onto_first b (piece ∷ more) = (b ∷ piece) ∷ more

abbrev pub pieces : ℕ → List ℕ → List (List ℕ)
pieces c [] = [] ∷ []
pieces c (b ∷ bs) = (if b == c then [] ∷ pieces c bs else onto_first b (pieces c bs))

-- the lines of a script, and the words of a line; a script that ends with LF has an empty line after it
abbrev pub lines_of : List ℕ → List (List ℕ)
lines_of script = pieces 10 script

abbrev pub words_of : List ℕ → List (List ℕ)
words_of text = pieces 32 text

abbrev pub words_behind : Option (List ℕ) → List (List ℕ)
words_behind None = []
words_behind (Some text) = words_of text

-- the names, their texts, and the name of a word
abbrev pub name_text : Name → List ℕ
name_text name.Add = codes "add"
name_text name.Remove = codes "remove"
name_text name.Pause = codes "pause"
name_text name.Unpause = codes "unpause"
name_text name.Read = codes "read"
name_text name.Wakeup = codes "wakeup"
name_text name.Poll = codes "poll"
name_text name.Done = codes "done"
name_text name.Handles = codes "handles"
name_text name.Running = codes "running"
name_text name.State = codes "state"

abbrev pub names : List Name
names =
    name.Add ∷ name.Remove ∷ name.Pause ∷ name.Unpause ∷ name.Read ∷ name.Wakeup ∷ name.Poll ∷ name.Done ∷ name.Handles ∷ name.Running ∷ name.State ∷ []

unfoldable pub named : List ℕ → Option Name
named word = find (λ n. pointwise nat_eq (name_text n) word) names

abbrev pub IsNameOf : List ℕ → Option Name → Type 0
IsNameOf word (Some n) = word ≡ name_text n
IsNameOf word None = (n : Name) → word ≢ name_text n

-- a number: 1 to 10 decimal digits of at most 4294967295
abbrev pub value_of : List ℕ → ℕ
value_of digits = fold (λ n digit. 10 * n + (digit - 48)) 0 digits

abbrev pub is_numeral : List ℕ → Bool
is_numeral word = nat_lt 0 (length word) && nat_le (length word) 10 && list_all is_ascii_digit word

unfoldable pub number_of : List ℕ → Option ℕ
number_of word = (if is_numeral word && nat_le (value_of word) 4294967295 then Some (value_of word) else None)

-- the codes that a script may finish a transfer with: all but that of content that couldn't be written, since a script's transfers have none
abbrev pub is_scripted : Code → Bool
is_scripted code.WriteError = false
is_scripted _ = true

-- the code of a number
abbrev pub all_codes : List Code
all_codes =
    code.Ok ∷ code.UnsupportedProtocol ∷ code.UrlMalformat ∷ code.CouldntResolveHost ∷ code.CouldntConnect ∷ code.WeirdServerReply ∷ code.PartialFile ∷ code.OutOfMemory ∷ code.OperationTimedout ∷ code.TooManyRedirects ∷ code.GotNothing ∷ code.SendError ∷ code.RecvError ∷ code.BadContentEncoding ∷ code.FilesizeExceeded ∷ code.TooLarge ∷ []

unfoldable pub coded : ℕ → Option Code
coded number = find (λ c. is_scripted c && (code_number c == number)) all_codes

abbrev pub IsCodeOf : ℕ → Option Code → Type 0
IsCodeOf number (Some c) = (is_scripted c ≡ true) × (number ≡ code_number c)
IsCodeOf number None = (c : Code) → is_scripted c ≡ true → number ≢ code_number c

-- the call of a name alone, with a handle, and with a ticket, a code and a length
abbrev pub plain_call : Name → Option Call
plain_call name.Read = Some call.InfoRead
plain_call name.Wakeup = Some call.Wakeup
plain_call name.Poll = Some call.Poll
plain_call name.Handles = Some call.Handles
plain_call name.Running = Some call.Running
plain_call _ = None

abbrev pub handle_call : Name → HandleId → Option Call
handle_call name.Add h = Some (call.Add h)
handle_call name.Remove h = Some (call.Remove h)
handle_call name.Pause h = Some (call.Pause h)
handle_call name.Unpause h = Some (call.Unpause h)
handle_call name.State h = Some (call.State h)
handle_call _ h = None

abbrev pub end_call : Name → Ticket → Code → ℕ → Option Call
end_call name.Done t c n = Some (call.Finish t c n)
end_call _ t c n = None

-- the call of a name, and of the words after it
abbrev pub call_with : List (List ℕ) → Name → Option Call
call_with [] n = plain_call n
call_with (h ∷ []) n = option_and_then (λ handle. handle_call n (record { 0 = handle })) (number_of h)
call_with (t ∷ c ∷ []) n = None
call_with (t ∷ c ∷ l ∷ []) n =
    option_and_then
    (λ ticket. option_and_then (λ code. option_and_then (end_call n (record { 0 = ticket }) code) (number_of l)) (option_and_then coded (number_of c)))
    (number_of t)
call_with (t ∷ c ∷ l ∷ _ ∷ _) n = None

abbrev pub call_of : List (List ℕ) → Option Call
call_of [] = None
call_of (word ∷ more) = option_and_then (call_with more) (named word)

-- what a line is: nothing or a comment, a call, `retire`, or a bad line
abbrev pub retire_or_bad : List ℕ → Line
retire_or_bad text = (if pointwise nat_eq text (codes "retire") then line.Retire else line.Bad)

abbrev pub call_or : Line → Option Call → Line
call_or other (Some c) = line.Call c
call_or other None = other

abbrev pub is_silent : List ℕ → Bool
is_silent [] = true
is_silent (b ∷ bs) = b == 35

-- the bytes of a line
abbrev pub most_line : ℕ
most_line = 64

-- rule play-long-lines: A line of a script is bad as soon as its 65th byte is there; a bad line ends the run with 122.
-- rule play-lines: An empty line and one that begins with `#` are silent; a number is 1 to 10 digits and at most 4,294,967,295.
unfoldable pub line_of : List ℕ → Line
line_of text =
    (if nat_lt most_line (length text) then line.Bad else (if is_silent text then line.Silent else call_or (retire_or_bad text) (call_of (words_of text))))
