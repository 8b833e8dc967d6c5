use Rattle.std.proofs.Common.{◌≡◌, ◌∙◌, ℕ, List, length, rules}
use Rattle.gate_file.specs.Gate.{IsShut}
use Rattle.lays_kept.specs.Kept.{Scattered}
use Rattle.lays_kept.specs.Saved.{HasMaps, HoldsMaps, map_pieces, region_end}
use Rattle.lays_kept.specs.Stands.{Commits}
use Rattle.pst_commit.specs.Commit.{IsApplied}
use Rattle.pst_commit.proofs.Outcomes.{applied_now, closed_still, leaves_nodes, while_writing, while_committing, still_long}
use Rattle.pst_commit.proofs.Saves.{Replaces, end_stays, lays_next, maps_hold, maps_replace, now_so, rests_next, trees_next}
use Rattle.pst_commit.proofs.save.save_maps.Goals as goal

pub returns-in_err-write_maps-clause-any_moment : goal.returns-in_err-write_maps-clause-any_moment
returns-in_err-write_maps-clause-any_moment g c = λ settled found N none end can uses.
    let old = g.W.Outside.view c.args.w.now in
    let header = c.args.header.now in
    let next = c.with_maps-next.result in
    let sealed = c.write-sealed.result in
    let size : length sealed ≡ 564 = search rules in
    let has = Scattered (map_pieces c.args.regions) old.here.main in
    let after : List ℕ → Type 0 = HoldsMaps c.args.slots.now c.args.regions in
    let replaces : old.tells → Replaces found header next sealed old.here has after N
    = λ t. maps_replace found header next sealed c.args.regions old.here N c.args.slots.now (can.rests t) can.regions none end (uses t) size c.write-sealed.ensures.back c.with_maps-next.ensures.trees c.with_maps-next.ensures.maps c.with_maps-next.ensures.eof (c.with_maps-next.ensures.free ∙ c.free_bytes.ensures) c.with_maps-next.ensures.last in
    let trees = c.with_maps-next.ensures.trees in
    let shut : old.tells → IsShut old.here.side = λ t. (can.rests t).shut in
    let commits : old.tells → Commits found has after sealed N header.indexes N next.indexes = λ t. (replaces t).commits in
    let told = c.write_maps.ensures.told in
    let run = c.write_maps.ensures.any_moment settled in
    leaves_nodes trees.indexes (while_writing has after sealed found N header.indexes N next.indexes shut commits told run)

pub returns-in_err-commit_header-clause-any_moment : goal.returns-in_err-commit_header-clause-any_moment
returns-in_err-commit_header-clause-any_moment g c = λ settled found N none end can uses.
    let old = g.W.Outside.view c.args.w.now in
    let header = c.args.header.now in
    let next = c.with_maps-next.result in
    let sealed = c.write-sealed.result in
    let size : length sealed ≡ 564 = search rules in
    let has = Scattered (map_pieces c.args.regions) old.here.main in
    let after : List ℕ → Type 0 = HoldsMaps c.args.slots.now c.args.regions in
    let replaces : old.tells → Replaces found header next sealed old.here has after N
    = λ t. maps_replace found header next sealed c.args.regions old.here N c.args.slots.now (can.rests t) can.regions none end (uses t) size c.write-sealed.ensures.back c.with_maps-next.ensures.trees c.with_maps-next.ensures.maps c.with_maps-next.ensures.eof (c.with_maps-next.ensures.free ∙ c.free_bytes.ensures) c.with_maps-next.ensures.last in
    let trees = c.with_maps-next.ensures.trees in
    let shut : old.tells → IsShut old.here.side = λ t. (can.rests t).shut in
    let commits : old.tells → Commits found has after sealed N header.indexes N next.indexes = λ t. (replaces t).commits in
    let told = c.write_maps.ensures.told in
    let run = c.write_maps.ensures.any_moment settled in
    let content = c.write_maps.ensures.content in
    leaves_nodes trees.indexes
    (while_committing has after sealed found N header.indexes N next.indexes shut commits told run content c.in_ok-write_maps.ensures.holds c.commit_header.ensures.told
    (c.commit_header.ensures.any_moment (c.in_ok-write_maps.ensures.settled settled) (closed_still old (g.W.Outside.view c.write_maps.new.w) shut told content) (still_long has after sealed found N header.indexes N next.indexes shut commits told run content)))

pub returns-clause-any_moment : goal.returns-clause-any_moment
returns-clause-any_moment g c = λ settled found N none end can uses.
    let old = g.W.Outside.view c.args.w.now in
    let header = c.args.header.now in
    let next = c.with_maps-next.result in
    let sealed = c.write-sealed.result in
    let size : length sealed ≡ 564 = search rules in
    let has = Scattered (map_pieces c.args.regions) old.here.main in
    let after : List ℕ → Type 0 = HoldsMaps c.args.slots.now c.args.regions in
    let replaces : old.tells → Replaces found header next sealed old.here has after N
    = λ t. maps_replace found header next sealed c.args.regions old.here N c.args.slots.now (can.rests t) can.regions none end (uses t) size c.write-sealed.ensures.back c.with_maps-next.ensures.trees c.with_maps-next.ensures.maps c.with_maps-next.ensures.eof (c.with_maps-next.ensures.free ∙ c.free_bytes.ensures) c.with_maps-next.ensures.last in
    let trees = c.with_maps-next.ensures.trees in
    let shut : old.tells → IsShut old.here.side = λ t. (can.rests t).shut in
    let commits : old.tells → Commits found has after sealed N header.indexes N next.indexes = λ t. (replaces t).commits in
    let told = c.write_maps.ensures.told in
    let run = c.write_maps.ensures.any_moment settled in
    let content = c.write_maps.ensures.content in
    leaves_nodes trees.indexes
    (while_committing has after sealed found N header.indexes N next.indexes shut commits told run content c.in_ok-write_maps.ensures.holds c.commit_header.ensures.told
    (c.commit_header.ensures.any_moment (c.in_ok-write_maps.ensures.settled settled) (closed_still old (g.W.Outside.view c.write_maps.new.w) shut told content) (still_long has after sealed found N header.indexes N next.indexes shut commits told run content)))

pub returns-clause-keeps : goal.returns-clause-keeps
returns-clause-keeps g c = λ found N none end can uses.
    let old = g.W.Outside.view c.args.w.now in
    let header = c.args.header.now in
    let next = c.with_maps-next.result in
    let sealed = c.write-sealed.result in
    let size : length sealed ≡ 564 = search rules in
    let has = Scattered (map_pieces c.args.regions) old.here.main in
    let after : List ℕ → Type 0 = HoldsMaps c.args.slots.now c.args.regions in
    let replaces : old.tells → Replaces found header next sealed old.here has after N
    = λ t. maps_replace found header next sealed c.args.regions old.here N c.args.slots.now (can.rests t) can.regions none end (uses t) size c.write-sealed.ensures.back c.with_maps-next.ensures.trees c.with_maps-next.ensures.maps c.with_maps-next.ensures.eof (c.with_maps-next.ensures.free ∙ c.free_bytes.ensures) c.with_maps-next.ensures.last in
    let trees = c.with_maps-next.ensures.trees in
    let shut : old.tells → IsShut old.here.side = λ t. (can.rests t).shut in
    let commits : old.tells → Commits found has after sealed N header.indexes N next.indexes = λ t. (replaces t).commits in
    let told = c.write_maps.ensures.told in
    let content = c.write_maps.ensures.content in
    let new = g.W.Outside.view c.commit_header.new.w in
    let applied : new.tells → IsApplied (λ file. has file × after file) sealed old.here new.here = λ t.
    let u = c.commit_header.ensures.told t in
    applied_now has after (content u) (c.in_ok-write_maps.ensures.holds u) (c.in_ok-commit_header.ensures.committed (closed_still old (g.W.Outside.view c.write_maps.new.w) shut told content) t) in
    let back : new.tells → old.tells = λ t. told (c.commit_header.ensures.told t) in (
      record {
        rests = λ t. rests_next (can.rests (back t)) (replaces (back t)) size c.write-sealed.ensures.back (applied t);
        regions = end_stays header.eof (region_end c.args.regions) next.eof can.regions (c.with_maps-next.ensures.eof ∙ end);
      },
      λ t. (lays_next (can.rests (back t)) (replaces (back t)) (applied t), now_so (HasMaps next) (applied t) (maps_hold found header next sealed c.args.regions old.here N c.args.slots.now (can.rests (back t)) can.regions none end (uses (back t)) size c.write-sealed.ensures.back c.with_maps-next.ensures.trees c.with_maps-next.ensures.maps c.with_maps-next.ensures.eof (c.with_maps-next.ensures.free ∙ c.free_bytes.ensures) c.with_maps-next.ensures.last (applied t).mid (applied t).file.0 (applied t).file.1), trees_next (can.rests (back t)) (replaces (back t)) (applied t)),
    )

pub returns-clause-shut : goal.returns-clause-shut
returns-clause-shut g c = λ shut t.
    (c.in_ok-commit_header.ensures.committed (closed_still (g.W.Outside.view c.args.w.now) (g.W.Outside.view c.write_maps.new.w) shut c.write_maps.ensures.told c.write_maps.ensures.content) t).shut
