use Rattle.std.proofs.Common.{ℕ, List, drop, length, ap, subst, ◌∙◌}
use Rattle.std.specs.Prelude.{IfSome, codes}
use Rattle.httparse.specs.Grammar.{print_response}
use Rattle.httparse.specs.Spans.{IsWithin}
use Rattle.mx_head.specs.Fields.{Line, elements, first_value, nonempty, location_of}
use Rattle.mx_head.specs.Framing.{has_word}
use Rattle.mx_head.specs.Summary.{coding_of, length_of}
use Rattle.mx_head.proofs.PlaceLemmas.{stands_in_front}
use Rattle.mx_head.proofs.reading.describe.Goals as goal

pub returns : goal.returns
unfolding location_of
returns c = λ h at.
    let within = subst (λ (n : ℕ). IfSome c.location.result (IsWithin n)) at.len (c.location.ensures.within c.args.spans.now.len c.requires.section.headers_fit) in
    record {
      len = at.len;
      status = at.code;
      minor = at.version;
      coding = c.coding.ensures ∙ ap (λ (ls : List Line). coding_of (elements (codes "transfer-encoding") ls)) at.fields;
      length = c.length.ensures ∙ ap (λ (ls : List Line). length_of (elements (codes "content-length") ls)) at.fields;
      close = c.has_option.ensures ∙ ap (λ (ls : List Line). has_word (codes "close") (elements (codes "connection") ls)) at.fields;
      keep_alive = c.has_option-2.ensures ∙ ap (λ (ls : List Line). has_word (codes "keep-alive") (elements (codes "connection") ls)) at.fields;
      location = stands_in_front c.args.text.now (print_response h) (drop c.args.spans.now.len c.args.text.now) c.location.result (location_of h) at.reads.1 within
          (c.location.ensures.value ∙ ap (λ (ls : List Line). nonempty (first_value (codes "location") ls)) at.fields);
    }
