use Rattle.mx_body.specs.declared.chunked.place.ChunkedPlace.TheVariants.{Extension}
use Rattle.mx_body.proofs.ChunkedStretchLemmas.{extension_goes_on}
use Rattle.mx_body.proofs.chunked.stretch.from_extension.Goals as goal

pub returns : goal.returns
returns c =
    c.line_of_size.ensures c.args.limit (Extension c.args.size)
    (extension_goes_on c.args.limit c.args.size c.line_bytes-n.result c.args.input.now c.line_bytes-n.ensures.within c.line_bytes-n.ensures.line)
