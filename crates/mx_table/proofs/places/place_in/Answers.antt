use Rattle.std.proofs.Common.{eqb, arith, w32}
use Rattle.std.proofs.lemmas.Simd.{bitmask_splat, length-chunk}
use lib.Lanes.{chunk}
use Rattle.mx_table.proofs.Lanes.{hit_within, hit_there, hit_first, no_hit}
use Rattle.mx_table.proofs.places.place_in.Goals as goal

pub returns-then-hits-eq0-clause-none : goal.returns-then-hits-eq0-clause-none
returns-then-hits-eq0-clause-none c =
    let xs = c.args.numbers.now in
    let mask = bitmask_splat w32 eqb (chunk c.args.at 16 xs) 16 c.args.wanted (length-chunk c.args.at 16 xs c.requires) (omega arith) in
    no_hit xs c.args.at c.args.wanted _ c.requires mask c.if-hits-eq0.true

pub returns-else-hits-eq0-clause-within : goal.returns-else-hits-eq0-clause-within
returns-else-hits-eq0-clause-within c =
    let xs = c.args.numbers.now in
    let mask = bitmask_splat w32 eqb (chunk c.args.at 16 xs) 16 c.args.wanted (length-chunk c.args.at 16 xs c.requires) (omega arith) in
    let small = hit_within xs c.args.at c.args.wanted _ c.requires mask c.if-hits-eq0.false in
    (omega arith, omega (arith, small))

pub returns-else-hits-eq0-clause-there : goal.returns-else-hits-eq0-clause-there
returns-else-hits-eq0-clause-there c =
    let xs = c.args.numbers.now in
    let mask = bitmask_splat w32 eqb (chunk c.args.at 16 xs) 16 c.args.wanted (length-chunk c.args.at 16 xs c.requires) (omega arith) in
    hit_there xs c.args.at c.args.wanted _ c.requires mask c.if-hits-eq0.false

pub returns-else-hits-eq0-clause-first : goal.returns-else-hits-eq0-clause-first
returns-else-hits-eq0-clause-first c =
    let xs = c.args.numbers.now in
    let mask = bitmask_splat w32 eqb (chunk c.args.at 16 xs) 16 c.args.wanted (length-chunk c.args.at 16 xs c.requires) (omega arith) in
    hit_first xs c.args.at c.args.wanted _ c.requires mask c.if-hits-eq0.false
