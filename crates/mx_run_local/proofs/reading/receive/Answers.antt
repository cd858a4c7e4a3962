use Rattle.std.proofs.Common.{rules, ◌≡◌, ◌≤◌, ◌<◌, ◌+◌, ◌++◌, length, length-append, take, arith, ℕ}
use Rattle.std.proofs.lemmas.List.{length-take, take-append-le}
use Rattle.std.proofs.KnownBytes.{Consumes-kept, Consumes-trans}
use Rattle.mx_head.specs.Limits.{most_bytes}
use Rattle.mx_run_local.proofs.WasRead.{ended, filled, given_none, had_bytes}
use Rattle.mx_run_local.proofs.Received.{reading_begins, reads_on, read_is, some_read, on_error}
use Rattle.mx_run_local.proofs.reading.receive.Goals as goal

pub returns-in-Err-clause-left : goal.returns-in-Err-clause-left
returns-in-Err-clause-left g c =
    let r = c.loop-len.invariant.reading in
    record {
      front = r.bytes;
      given = Consumes-kept _ _ _ _ r.given c.in-Err.ensures.bytes;
      few = omega (arith, r.counted, c.loop-len.invariant.few);
      before = search rules;
    }

pub returns-then-count-eq0-clause-received : goal.returns-then-count-eq0-clause-received
returns-then-count-eq0-clause-received g c =
    let r = c.loop-len.invariant.reading in
    let room : 0 < length c.read.new.buffer = omega (arith, length-take {A = ℕ}) in
    let few : length r.bytes ≤ most_bytes = omega (arith, r.counted) in
    read_is _ _ _ _ _ r.bytes _ (record {
      given = given_none _ _ _ _ _ _ r.given c.in-Ok.ensures.bytes.0 c.if-count-eq0.true;
      enough = ended _ _ _ _ _ _ _ r.given c.if-count-eq0.true room c.in-Ok.ensures.bytes few;
    }) r.fed r.method r.counted c.decide.ensures.decided

pub returns-then-count-eq0-clause-left : goal.returns-then-count-eq0-clause-left
returns-then-count-eq0-clause-left g c =
    let r = c.loop-len.invariant.reading in
    record {
      front = r.bytes;
      given = given_none _ _ _ _ _ _ r.given c.in-Ok.ensures.bytes.0 c.if-count-eq0.true;
      few = omega (arith, r.counted, c.loop-len.invariant.few);
      before = search rules;
    }

pub returns-then-count-eq0-clause-memory : goal.returns-then-count-eq0-clause-memory
returns-then-count-eq0-clause-memory g c is =
    let r = c.loop-len.invariant.reading in
    some_read _ _ r.bytes r.given (on_error _ _ c.decide.ensures.memory is r.bytes r.fed)

pub returns-clause-received : goal.returns-clause-received
returns-clause-received g c =
    let r = c.loop-len.invariant.reading in
    let full : length r.bytes ≡ 67108864 + 1 = omega (arith, r.counted) in
    read_is _ _ _ _ _ r.bytes _ (record { given = r.given; enough = filled _ _ _ _ r.given full }) r.fed r.method r.counted c.decide-2.ensures.decided

pub returns-clause-left : goal.returns-clause-left
returns-clause-left g c =
    let r = c.loop-len.invariant.reading in
    record {
      front = r.bytes;
      given = r.given;
      few = omega (arith, r.counted, c.loop-len.invariant.few);
      before = search rules;
    }

pub returns-clause-memory : goal.returns-clause-memory
returns-clause-memory g c is =
    let r = c.loop-len.invariant.reading in
    some_read _ _ r.bytes r.given (on_error _ _ c.decide-2.ensures.memory is r.bytes r.fed)

pub loop-len-init : goal.loop-len-init
loop-len-init g c = record {
  reading = reading_begins _ _ _ c.new-decoder.ensures.begins c.new-decoder.ensures.exact;
  few = search rules;
  reads = search rules;
  begun = search rules;
  most = search rules;
  alive = search rules;
  first = search rules;
}

pub loop-len-preserved : goal.loop-len-preserved
loop-len-preserved g c =
    let inv = c.loop-len.invariant in
    let all : c.in-Ok.count ≡ length (take c.in-Ok.count c.read.new.buffer) = omega (arith, length-take {A = ℕ}, c.in-Ok.ensures.bound) in
    record {
      reading = reads_on _ _ _ _ _ _ _ _ _ _ inv.reading c.in-Ok.ensures.bytes.0 (take-append-le c.in-Ok.count c.read.new.buffer _ (omega (arith, c.in-Ok.ensures.bound))) all c.in-Ok-feed.ensures.exact
          (λ decided. (c.in-Ok-feed.ensures.over decided).0) (λ more. c.in-Ok-feed.ensures.fed more);
      few = search rules;
      reads = search rules;
      begun = search rules;
      most = search rules;
      alive = search rules;
      first = search rules;
    }

pub returns-in-Err-feed-clause-left : goal.returns-in-Err-feed-clause-left
returns-in-Err-feed-clause-left g c =
    let r = c.loop-len.invariant.reading in
    let got = take c.in-Ok.count c.read.new.buffer in
    let all : c.in-Ok.count ≡ length got = omega (arith, length-take {A = ℕ}, c.in-Ok.ensures.bound) in
    let few : c.loop-len.len + c.in-Ok.count ≤ most_bytes + 1 = search rules in
    record {
      front = r.bytes ++ got;
      given = Consumes-trans _ _ _ _ _ r.given c.in-Ok.ensures.bytes.0;
      few = omega (arith, r.counted, all, few, length-append r.bytes got);
      before = search rules;
    }

pub returns-in-Err-feed-clause-memory : goal.returns-in-Err-feed-clause-memory
returns-in-Err-feed-clause-memory g c is =
    let r = c.loop-len.invariant.reading in
    let got = take c.in-Ok.count c.read.new.buffer in
    let some : 0 < length got = omega (arith, length-take {A = ℕ}) in
    had_bytes _ _ _ _ _ r.given c.in-Ok.ensures.bytes.0 some

pub returns-in-Err-clause-received : goal.returns-in-Err-clause-received
returns-in-Err-clause-received g c = search rules

pub returns-in-Err-clause-memory : goal.returns-in-Err-clause-memory
returns-in-Err-clause-memory g c = search rules

pub returns-in-Err-clause-failed : goal.returns-in-Err-clause-failed
returns-in-Err-clause-failed g c = search rules
