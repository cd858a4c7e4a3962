-- What is printed of a URL.
use Rattle.std.specs.Prelude.{ℕ, ◌+◌, ◌-◌, ◌^◌, List, [], ◌∷◌, ◌++◌, codes, Option, Some, None, option_map}
use Rattle.std.specs.Fmt.{decimal}
use Rattle.json.specs.Print.{quoted}
use Rattle.percent_encoding.specs.declared.ascii_set.AsciiSet.{AsciiSet}
use Rattle.percent_encoding.specs.Percent.{percent_encode}
use Rattle.mx_save_rules.specs.declared.end.FramingWord.{FramingWord}
use Rattle.mx_save_rules.specs.declared.end.FramingWord.TheVariants as framing
use Rattle.mx_save_rules.specs.Codes.{save_number}
use Rattle.mx_save_rules.specs.Words.{verdict_word}
use Rattle.mx_save_rules.specs.Ends.{EndValue}

-- what is escaped beside the bytes above 127: the controls, 0 to 31 and 127, and the space, 32
abbrev pub hidden : AsciiSet
hidden = record { mask = 2 ^ 127 + (2 ^ 33 - 1) }

-- the bytes as they are shown: each that isn't visible ASCII as %XX, with capital digits
abbrev pub shown : List ℕ → List ℕ
shown bytes = percent_encode hidden bytes

-- the name of a file, `-` for none
abbrev pub file_field : Option (List ℕ) → List ℕ
file_field None = 45 ∷ []
file_field (Some name) = shown name

-- the fields before the file, each with a space after it
unfoldable pub front_text : List ℕ → ℕ → ℕ → ℕ → List ℕ
front_text word number status length = word ++ (32 ∷ (decimal number ++ (32 ∷ (decimal status ++ (32 ∷ (decimal length ++ 32 ∷ []))))))

-- the fields, one space between, and the end of the line
unfoldable pub fields_text : List ℕ → ℕ → ℕ → ℕ → List ℕ → List ℕ → List ℕ
fields_text word number status length file url =
    word ++ (32 ∷ (decimal number ++ (32 ∷ (decimal status ++ (32 ∷ (decimal length ++ (32 ∷ (file ++ (32 ∷ (url ++ 10 ∷ []))))))))))

-- verdict, code, status, length, file and URL
abbrev pub end_line : EndValue → List ℕ
end_line e = fields_text (verdict_word e.verdict) (save_number e.code) e.status e.length (file_field e.file) (shown e.url)

-- a text in JSON, `null` where there is none
abbrev pub json_text : Option (List ℕ) → List ℕ
json_text None = codes "null"
json_text (Some text) = quoted text

-- the word of a framing in JSON, `null` where there is none
abbrev pub framing_text : Option FramingWord → List ℕ
framing_text None = codes "null"
framing_text (Some framing.Length) = codes "\"length\""
framing_text (Some framing.Chunked) = codes "\"chunked\""
framing_text (Some framing.Close) = codes "\"close\""

-- the object of a URL up to the name of its file
unfoldable pub object_front : List ℕ → List ℕ → ℕ → ℕ → ℕ → List ℕ
object_front url word number status length =
    codes "{\"url\":" ++ (url ++ (codes ",\"verdict\":\"" ++ (word ++ (codes "\",\"code\":" ++ (decimal number ++ (codes ",\"status\":" ++ (decimal status
    ++ (codes ",\"length\":" ++ (decimal length ++ codes ",\"file\":")))))))))

-- the object from there on, and the end of the line
unfoldable pub object_back : List ℕ → ℕ → ℕ → List ℕ → List ℕ → List ℕ
object_back file hops tries framing error =
    file ++ (codes ",\"hops\":" ++ (decimal hops ++ (codes ",\"tries\":" ++ (decimal tries ++ (codes ",\"framing\":" ++ (framing
    ++ (codes ",\"error\":" ++ (error ++ 125 ∷ 10 ∷ []))))))))

-- url, verdict, code, status, length, file, hops, tries, framing and error
abbrev pub json_line : EndValue → List ℕ
json_line e =
    object_front (quoted (shown e.url)) (verdict_word e.verdict) (save_number e.code) e.status e.length
    ++ object_back (json_text (option_map shown e.file)) e.hops e.tries (framing_text e.framing) (json_text e.error)

-- what is printed of a list of ends
abbrev pub lines_text : List EndValue → List ℕ
lines_text [] = []
lines_text (e ∷ es) = end_line e ++ lines_text es

abbrev pub objects_text : List EndValue → List ℕ
objects_text [] = []
objects_text (e ∷ es) = json_line e ++ objects_text es
