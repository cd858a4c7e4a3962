-- What is printed shows what each URL ended with, and nothing can forge a line.
use Rattle.std.specs.Prelude.{◌≡◌, ℕ, ◌<◌, List, [], ◌∷◌, ◌++◌, map, Option, option_map}
use Rattle.std.specs.List.{AllByRecursion}
use Rattle.mx_save_rules.specs.declared.end.Verdict.{Verdict}
use Rattle.mx_save_rules.specs.declared.end.FramingWord.{FramingWord}
use Rattle.mx_save_rules.specs.Codes.{save_number}
use Rattle.mx_save_rules.specs.Ends.{EndValue, IsEnd}
use Rattle.mx_save_rules.specs.Texts.{shown, end_line, json_line, lines_text, objects_text}

-- what a line shows: the URL and the name as they are escaped
abbrev pub told_line : EndValue → Verdict × (ℕ × (ℕ × (ℕ × (Option (List ℕ) × List ℕ))))
told_line e = (e.verdict, (save_number e.code, (e.status, (e.length, (option_map shown e.file, shown e.url)))))

-- what an object shows beside that
abbrev pub told_object : EndValue → (Verdict × (ℕ × (ℕ × (ℕ × (Option (List ℕ) × List ℕ))))) × (ℕ × (ℕ × (Option FramingWord × Option (List ℕ))))
told_object e = (told_line e, (e.hops, (e.tries, (e.framing, e.error))))

-- rule save-lines: One line, or one object, for each URL; no server and no list can forge one.
--
-- Equal lines come only from as many URLs that ended alike.
abbrev pub LinesTell : Type 0
LinesTell = (some others : List EndValue) → AllByRecursion IsEnd some → AllByRecursion IsEnd others
    → lines_text some ≡ lines_text others → map told_line some ≡ map told_line others

-- rule save-lines
-- Equal objects do so, too.
abbrev pub ObjectsTell : Type 0
ObjectsTell = (some others : List EndValue) → AllByRecursion IsEnd some → AllByRecursion IsEnd others
    → objects_text some ≡ objects_text others → map told_object some ≡ map told_object others

-- a text with one end of a line, at its end
pub record IsOneLine (text : List ℕ) : Type 0 where
  pub front : List ℕ
  pub is : text ≡ front ++ 10 ∷ []
  pub visible : AllByRecursion (λ b. 10 < b) front

-- What is printed of a URL is one line, whatever its bytes are.
abbrev pub EachIsOneLine : Type 0
EachIsOneLine = (e : EndValue) → IsEnd e → IsOneLine (end_line e) × IsOneLine (json_line e)
