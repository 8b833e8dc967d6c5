use Rattle.std.proofs.Common.{◌≡◌, ◌∙◌, ◌+◌, ◌*◌, length, subst, sym, arith, rules}
use Rattle.pst_outside.specs.World.{Image, TornAt}
use Rattle.pst_outside.specs.declared.outside.Part.TheVariants.{Main}
use Rattle.pst_outside.specs.Calls.{LeavesOnly, Settled}
use Rattle.pst_outside.proofs.Moments.{goes_on, at_end}
use Rattle.alloc_map.specs.Slots.{start_of}
use Rattle.lays_kept.specs.Kept.{Scattered}
use Rattle.lays_kept.specs.Saved.{HoldsMaps, map_pieces}
use Rattle.pst_commit.specs.Commit.{Writes}
use Rattle.pst_commit.proofs.MapWrites.{maps_more, holds_map}
use Rattle.pst_commit.proofs.save.write_maps.Goals as goal

pub returns-in_err-write_at-clause-content : goal.returns-in_err-write_at-clause-content
returns-in_err-write_at-clause-content g c =
    let old = g.W.Outside.view c.args.w.now in
    let mid = g.W.Outside.view c.loop-r.w in
    let new = g.W.Outside.view c.write_at.new.self in
    let n = c.args.regions in
    let r = c.loop-r.r in
    let at = c.region_end.result in
    let page = c.map_page.result in
    let place : at ≡ start_of (3968 * r) = let e = c.region_end.ensures in omega (arith, e) in
    let size : length page ≡ 512 = c.map_page.ensures.map.sealed.0 in
    let has = Scattered (map_pieces n) old.here.main in
    let step : (d e : Image) → Writes has old.here d → TornAt Main at (length page) d e → Writes has old.here e
    = λ d e so_far torn. maps_more n r at (length page) old.here.main old.here d e c.loop-r-test.true place size so_far torn in
    let content : new.tells → Writes has old.here new.here = λ told.
    step mid.here new.here (c.loop-r.invariant.content (c.write_at.ensures.content.told told)) (c.write_at.ensures.content.here told) in
    content

pub returns-in_err-write_at-clause-any_moment : goal.returns-in_err-write_at-clause-any_moment
returns-in_err-write_at-clause-any_moment g c =
    let old = g.W.Outside.view c.args.w.now in
    let mid = g.W.Outside.view c.loop-r.w in
    let new = g.W.Outside.view c.write_at.new.self in
    let n = c.args.regions in
    let r = c.loop-r.r in
    let at = c.region_end.result in
    let page = c.map_page.result in
    let place : at ≡ start_of (3968 * r) = let e = c.region_end.ensures in omega (arith, e) in
    let size : length page ≡ 512 = c.map_page.ensures.map.sealed.0 in
    let has = Scattered (map_pieces n) old.here.main in
    let step : (d e : Image) → Writes has old.here d → TornAt Main at (length page) d e → Writes has old.here e
    = λ d e so_far torn. maps_more n r at (length page) old.here.main old.here d e c.loop-r-test.true place size so_far torn in
    let content : new.tells → Writes has old.here new.here = λ told.
    step mid.here new.here (c.loop-r.invariant.content (c.write_at.ensures.content.told told)) (c.write_at.ensures.content.here told) in
    let run : Settled old → LeavesOnly old new (Writes has old.here) = λ settled.
    let so_far = c.loop-r.invariant.run settled in
    goes_on so_far c.write_at.ensures.time content (λ i left.
    let before : (d : Image) × mid.may_leave d × TornAt Main at (length page) d i = c.write_at.ensures.crash i left in
    step before.0 i (at_end so_far before.0 before.1) before.2) in
    run

pub loop-r-preserved : goal.loop-r-preserved
loop-r-preserved g c =
    let old = g.W.Outside.view c.args.w.now in
    let mid = g.W.Outside.view c.loop-r.w in
    let new = g.W.Outside.view c.write_at.new.self in
    let n = c.args.regions in
    let r = c.loop-r.r in
    let at = c.region_end.result in
    let page = c.map_page.result in
    let place : at ≡ start_of (3968 * r) = let e = c.region_end.ensures in omega (arith, e) in
    let size : length page ≡ 512 = c.map_page.ensures.map.sealed.0 in
    let has = Scattered (map_pieces n) old.here.main in
    let step : (d e : Image) → Writes has old.here d → TornAt Main at (length page) d e → Writes has old.here e
    = λ d e so_far torn. maps_more n r at (length page) old.here.main old.here d e c.loop-r-test.true place size so_far torn in
    let content : new.tells → Writes has old.here new.here = λ told.
    step mid.here new.here (c.loop-r.invariant.content (c.write_at.ensures.content.told told)) (c.write_at.ensures.content.here told) in
    let run : Settled old → LeavesOnly old new (Writes has old.here) = λ settled.
    let so_far = c.loop-r.invariant.run settled in
    goes_on so_far c.write_at.ensures.time content (λ i left.
    let before : (d : Image) × mid.may_leave d × TornAt Main at (length page) d i = c.write_at.ensures.crash i left in
    step before.0 i (at_end so_far before.0 before.1) before.2) in
    record {
      counts = search rules;
      told = λ told. c.loop-r.invariant.told (c.write_at.ensures.content.told told);
      input = λ told. c.write_at.ensures.content.input told ∙ c.loop-r.invariant.input (c.write_at.ensures.content.told told);
      written = let was = c.loop-r.invariant.written in let now = c.write_at.ensures.content.written in omega (arith, was, now, size);
      content = content;
      holds = λ told.
          subst (HoldsMaps c.args.slots.now (r + 1)) (sym (c.in_ok-write_at.ensures.after told))
          (holds_map c.args.slots.now r at mid.here.main page place c.map_page.ensures.map (c.loop-r.invariant.holds (c.write_at.ensures.content.told told)));
      run = run;
    }
