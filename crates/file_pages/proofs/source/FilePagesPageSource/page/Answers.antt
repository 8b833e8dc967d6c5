use Rattle.std.proofs.Common.{Some, sym, ap, ◌∙◌, arith}
use Rattle.file_blocks.specs.Blocks.{file_of}
use Rattle.file_layout.proofs.Underway.{untouched_then}
use Rattle.file_pages.specs.InFile.{bodies}
use Rattle.file_pages.specs.Told.{or_no_page}
use Rattle.file_pages.proofs.SourceLaws.{caches-put, caches-still, gives-on, untouched-same}
use Rattle.file_pages.proofs.source.FilePagesPageSource.page.Goals as goal

pub returns-in-Some-clause-later : goal.returns-in-Some-clause-later
returns-in-Some-clause-later g c =
    let old = g.W.Outside.view c.args.self.now.world.now in
    let same = untouched-same old in
    record {
      fails = omega arith;
      changes = omega arith;
      told = λ find gives. gives-on same (λ caches. record { told = caches.told; kept = c.get.ensures.same (bodies (file_of old.here) c.args.self.now.eof c.args.self.now.kind) caches.kept }) find gives;
      since = λ first s. s;
    }

pub returns-in-Some-clause-found : goal.returns-in-Some-clause-found
returns-in-Some-clause-found g c = λ find gives.
    let old = g.W.Outside.view c.args.self.now.world.now in
    gives.found c.args.at ∙ ap (λ o. Some (or_no_page o)) (c.in-Some.ensures.page (bodies (file_of old.here) c.args.self.now.eof c.args.self.now.kind) gives.caches.kept)

pub returns-in_err-put-in-Ok-Some-clause-later : goal.returns-in_err-put-in-Ok-Some-clause-later
returns-in_err-put-in-Ok-Some-clause-later g c =
    let old = g.W.Outside.view c.args.self.now.world.now in
    let same = c.read_body.ensures.same in
    let find0 = bodies (file_of old.here) c.args.self.now.eof c.args.self.now.kind in
    record {
      fails = same.counts.disk_faults;
      changes = omega arith;
      told = λ find gives. gives-on same (λ caches. caches-put c.args.at same (sym (c.in-Ok-Some.ensures.body caches.told) ∙ c.in-Ok-Some.field-0-is) c.put.ensures.kept (record { told = caches.told; kept = c.get.ensures.same find0 caches.kept })) find gives;
      since = λ first s. (s.0, s.1, s.2, s.3, untouched_then s.4 same);
    }

pub returns-in_ok-put-in-Ok-Some-clause-later : goal.returns-in_ok-put-in-Ok-Some-clause-later
returns-in_ok-put-in-Ok-Some-clause-later g c =
    let old = g.W.Outside.view c.args.self.now.world.now in
    let same = c.read_body.ensures.same in
    let find0 = bodies (file_of old.here) c.args.self.now.eof c.args.self.now.kind in
    record {
      fails = same.counts.disk_faults;
      changes = omega arith;
      told = λ find gives. gives-on same (λ caches. caches-put c.args.at same (sym (c.in-Ok-Some.ensures.body caches.told) ∙ c.in-Ok-Some.field-0-is) c.put.ensures.kept (record { told = caches.told; kept = c.get.ensures.same find0 caches.kept })) find gives;
      since = λ first s. (s.0, s.1, s.2, s.3, untouched_then s.4 same);
    }

pub returns-in-Ok-None-clause-later : goal.returns-in-Ok-None-clause-later
returns-in-Ok-None-clause-later g c =
    let old = g.W.Outside.view c.args.self.now.world.now in
    let same = c.read_body.ensures.same in
    let find0 = bodies (file_of old.here) c.args.self.now.eof c.args.self.now.kind in
    record {
      fails = same.counts.disk_faults;
      changes = omega arith;
      told = λ find gives. gives-on same (λ caches. caches-still same (record { told = caches.told; kept = c.get.ensures.same find0 caches.kept })) find gives;
      since = λ first s. (s.0, s.1, s.2, s.3, untouched_then s.4 same);
    }

pub returns-in-Err-clause-later : goal.returns-in-Err-clause-later
returns-in-Err-clause-later g c =
    let old = g.W.Outside.view c.args.self.now.world.now in
    let same = c.read_body.ensures.same in
    let find0 = bodies (file_of old.here) c.args.self.now.eof c.args.self.now.kind in
    record {
      fails = same.counts.disk_faults;
      changes = omega arith;
      told = λ find gives. gives-on same (λ caches. caches-still same (record { told = caches.told; kept = c.get.ensures.same find0 caches.kept })) find gives;
      since = λ first s. (s.0, s.1, s.2, s.3, untouched_then s.4 same);
    }
