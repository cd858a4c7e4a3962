-- Which option's value each part of what a command line asks for is. A value is found by the id of its option, which is the option's name.
use Rattle.std.specs.Prelude.{◌≡◌, ◌≢◌, ◌⊎◌, ℕ, ◌<◌, ◌==◌, length, Bool, true, false, List, [], ◌∷◌, codes, map, Option, Some, None, option_map, unwrap_or, is_some, MatchOption}
use Rattle.std.specs.List.{after_first, before_first, position_or_len}
use Rattle.std.specs.Str.{IsTrimAscii}
use Rattle.std.specs.Str.Parse.{digits_value, without_leading_plus}
use Rattle.clap.specs.Words.{first_value, matched_of, one_text, raw_values}
use Rattle.clap.specs.declared.parser.matches.Found.{Found}
use Rattle.mx_types.specs.Method.{method_name}
use Rattle.mx_types.specs.declared.method.Method.{Method}
use Rattle.mx_types.specs.declared.method.Method.TheVariants as method
use Rattle.mx_run_io.specs.declared.options.Options.{Options}
use Rattle.mx_command.specs.declared.asked.Asked.{Asked}
use Rattle.mx_command.specs.declared.asked.Asked.TheVariants as asked
use Rattle.mx_command.specs.declared.asked.Get.{Get}
use Rattle.mx_command.specs.declared.save.BodySource.{BodySource}
use Rattle.mx_command.specs.declared.save.BodySource.TheVariants as body
use Rattle.mx_command.specs.declared.save.Header.{Header}
use Rattle.mx_command.specs.declared.save.ListSource.{ListSource}
use Rattle.mx_command.specs.declared.save.ListSource.TheVariants.{File, Standard}
use Rattle.mx_command.specs.declared.save.Save.{Save}
use Rattle.mx_command.specs.declared.save.SaveFlags.{SaveFlags}
use Rattle.mx_command.specs.declared.save.SaveNumbers.{SaveNumbers}

-- the number that a text writes in decimal, if there is a text
abbrev pub number_in : Option (List ℕ) → Option ℕ
number_in text = option_map (λ t. digits_value 10 (without_leading_plus t)) text

-- the number that the value of an option writes
abbrev pub number_of : Found → List ℕ → Option ℕ
number_of given id = number_in (one_text given id)

-- whether an option was given that takes no value: clap has such a value for it
pub record IsFlagOf (given : Found) (id : List ℕ) (flag : Bool) : Type 0 where
  pub absent : one_text given id ≡ None → flag ≡ false
  pub set : one_text given id ≡ Some (codes "true") → flag ≡ true
  pub unset : one_text given id ≡ Some (codes "false") → flag ≡ false

-- all values of an option
abbrev pub texts_of : Found → List ℕ → List (List ℕ)
texts_of given id = unwrap_or (option_map raw_values (matched_of given id)) []

-- how URLs are fetched
pub record AreOptionsOf (given : Found) (o : Options) : Type 0 where
  pub workers : number_of given (codes "workers") ≡ Some o.workers
  pub at_once : number_of given (codes "at-once") ≡ Some o.at_once
  pub timeout_ms : number_of given (codes "timeout-ms") ≡ Some o.timeout_ms
  pub max_connects : number_of given (codes "max-connects") ≡ Some o.max_connects
  pub max_redirects : number_of given (codes "max-redirects") ≡ Some o.max_redirects

-- what `get` is asked for
pub record IsGetOf (given : Found) (get : Get) : Type 0 where
  pub options : AreOptionsOf given get.options
  pub urls : map (λ u. u.now) get.urls.items ≡ texts_of given (codes "URL")
  pub explain : IsFlagOf given (codes "explain") get.explain
  pub body : IsFlagOf given (codes "body") get.body

-- the numbers of `save`
pub record AreNumbersOf (given : Found) (n : SaveNumbers) : Type 0 where
  pub options : AreOptionsOf given n.options
  pub retries : number_of given (codes "retry") ≡ Some n.retries
  pub history : number_of given (codes "history") ≡ Some n.history
  pub most_bytes : number_of given (codes "max-filesize") ≡ n.most_bytes

-- whether progress is shown, where that is asked for, and where it is forbidden
abbrev pub progress_by : Bool → Bool → Option Bool
progress_by true hidden = Some true
progress_by false true = Some false
progress_by false false = None

abbrev pub IsProgressOf : Found → Option Bool → Type 0
IsProgressOf given progress = (shown : Bool) × (hidden : Bool) × IsFlagOf given (codes "progress") shown
    × IsFlagOf given (codes "no-progress") hidden × (progress ≡ progress_by shown hidden)

-- the flags of `save`
pub record AreFlagsOf (given : Found) (f : SaveFlags) : Type 0 where
  pub skip_existing : IsFlagOf given (codes "skip-existing") f.skip_existing
  pub content_on_error : IsFlagOf given (codes "content-on-error") f.content_on_error
  pub fsync : IsFlagOf given (codes "fsync") f.fsync
  pub json : IsFlagOf given (codes "json") f.json
  pub progress : IsProgressOf given f.progress

-- standard input for `-`, else that file
abbrev pub IsSourceOf : List ℕ → ListSource → Type 0
IsSourceOf text Standard = text ≡ codes "-"
IsSourceOf text (File path) = (path.now ≡ text) × (text ≢ codes "-")

abbrev pub IsInputOf : Found → Option ListSource → Type 0
IsInputOf given input = MatchOption input (first_value given (codes "input") ≡ None)
    (λ source. (text : List ℕ) × (first_value given (codes "input") ≡ Some text) × IsSourceOf text source)

-- that file for a text that begins with `@` (64), else the text itself
abbrev pub IsBodyBy : List ℕ → BodySource → Type 0
IsBodyBy text (body.File path) = text ≡ 64 ∷ path.now
IsBodyBy text (body.Text given) = (given.now ≡ text) × ((rest : List ℕ) → text ≢ 64 ∷ rest)

abbrev pub IsBodyOf : Found → Option BodySource → Type 0
IsBodyOf given source = MatchOption source (first_value given (codes "data") ≡ None)
    (λ b. (text : List ℕ) × (first_value given (codes "data") ≡ Some text) × IsBodyBy text b)

-- the method where none is given: POST with a body, and GET without one
abbrev pub default_method : Bool → Method
default_method true = method.Post
default_method false = method.Get

-- the method that a text names, and the other one where there is no text, or it names none
pub record IsMethodBy (text : Option (List ℕ)) (other is : Method) : Type 0 where
  pub absent : text ≡ None → is ≡ other
  pub named : (t : List ℕ) → text ≡ Some t → (t ≡ method_name is) ⊎ (((m : Method) → t ≢ method_name m) × (is ≡ other))

-- The header field of a text, by RFC 9112, section 5: its name is what stands before the first colon (58), and its value what follows that,
-- without white space around it.
pub record IsHeaderBy (text : List ℕ) (h : Header) : Type 0 where
  pub colon : position_or_len (λ b. b == 58) text < length text
  pub name : h.name.now ≡ before_first (λ b. b == 58) text
  pub value : IsTrimAscii (after_first (λ b. b == 58) text) h.value.now

-- one of each text, in their order
abbrev pub AreHeadersBy : List (List ℕ) → List Header → Type 0
AreHeadersBy [] [] = Unit {0}
AreHeadersBy (text ∷ texts) (h ∷ hs) = IsHeaderBy text h × AreHeadersBy texts hs
AreHeadersBy [] (h ∷ hs) = ⊥
AreHeadersBy (text ∷ texts) [] = ⊥

-- What `save` is asked for.
pub record IsSaveOf (given : Found) (save : Save) : Type 0 where
  pub numbers : AreNumbersOf given save.numbers
  pub flags : AreFlagsOf given save.flags
  pub into : Some save.into.now ≡ first_value given (codes "into")
  pub input : IsInputOf given save.input
  pub urls : map (λ u. u.now) save.urls.items ≡ texts_of given (codes "URL")
  pub method : IsMethodBy (one_text given (codes "method")) (default_method (is_some (matched_of given (codes "data")))) save.method
  pub headers : AreHeadersBy (texts_of given (codes "header")) save.headers.items
  pub body : IsBodyOf given save.body
  pub user_agent : option_map (λ t. t.now) save.user_agent ≡ first_value given (codes "user-agent")

-- clap found such values
abbrev pub IsSaveGiven : Save → Type 0
IsSaveGiven save = (given : Found) × IsSaveOf given save

abbrev pub IsGiven : Asked → Type 0
IsGiven (asked.Get get) = (given : Found) × IsGetOf given get
IsGiven (asked.Save save) = IsSaveGiven save
IsGiven _ = Unit {0}
