use Rattle.std.proofs.Common.{◌≡◌, ◌∙◌, sym, refl, ap, [], ◌∷◌, ◌++◌}
use Rattle.mx_turn.specs.Idle.{kept}
use Rattle.mx_chain.specs.Chains.{home_of}
use Rattle.mx_turn.specs.Turn.{drops}
use Rattle.mx_turn.proofs.Supplying.{by_put}
use Rattle.mx_turn.proofs.links.Links.keep.Goals as goal

pub returns-in_default-link_endpoint-clause-kept : goal.returns-in_default-link_endpoint-clause-kept
returns-in_default-link_endpoint-clause-kept g c = drops c.in-Some.link (sym c.in-Some.ensures.link) refl

pub returns-in-Ok-clause-kept : goal.returns-in-Ok-clause-kept
returns-in-Ok-clause-kept g c =
    let home = sym (ap home_of c.in-Some.ensures.rest) ∙ sym c.in-Some-link_endpoint.ensures in
    let inside : c.self.inside.idle ≡ c.args.self.now = c.self.view_is in
    let is : c.put.new.self ≡ record c.args.self.now { links = kept c.args.self.now.limit (c.args.self.now.links ++ (c.in-Ok.endpoint, c.in-Some.link) ∷ []) } = rw (← inside) c.put.ensures.links in
    by_put c.args.transfer.now c.args.self.now _ c.in-Some.link _ c.in-Ok.endpoint (sym c.in-Some.ensures.link) home c.in-Ok.ensures is

pub returns-in_default-copy-clause-kept : goal.returns-in_default-copy-clause-kept
returns-in_default-copy-clause-kept g c = drops c.in-Some.link (sym c.in-Some.ensures.link) refl
