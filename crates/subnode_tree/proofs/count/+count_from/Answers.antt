use Rattle.std.proofs.Common.{◌≡◌, ℕ, ◌+◌, ◌-◌, List, ◌++◌, length, drop, get_or, Option, Ok, sym, refl, ap, subst, ◌∙◌, arith}
use Rattle.std.proofs.lemmas.List.{length-append}
use Rattle.std.proofs.lemmas.Result.{err_from_is_err_and}
use Rattle.pst_base.specs.Flat.{Flat}
use Rattle.data_tree.specs.declared.source.TreeStop.TheVariants.{Deep, Many}
use Rattle.data_tree.specs.Measure.{measured}
use Rattle.data_tree.specs.Tree.{blocks_of}
use Rattle.data_tree.proofs.CountSteps.{Counting, counting-next, counting-fault, counting-stop, counting-end}
use Rattle.data_tree.proofs.Steps.{later-same, later-then, stops-after}
use Rattle.subnode_tree.specs.declared.blocks.SubEntry.{SubEntry}
use Rattle.subnode_tree.specs.Counts.{directs, counted, all_counted}
use Rattle.subnode_tree.specs.Subnodes.{level_of, rows, subs_from}
use Rattle.subnode_tree.proofs.CountLaws.{OneMore, one-more, directs-sum, count-data-fault, count-inner-fault}
use Rattle.subnode_tree.proofs.RowSteps.{rows-end}
use Rattle.subnode_tree.proofs.SubSteps.{sub_row, subs-read, subs-fault, sub-deep, sub-many}
use Rattle.subnode_tree.proofs.count.+count_from.Goals as goal

abbrev no_entry : SubEntry
no_entry = record { level = 0; nid = record { bits = 0 }; content = record { bits = 0 }; subnodes = record { bits = 0 } }

all-sum : (xs ys : List Flat) → length (xs ++ ys) ≡ length xs + length ys
all-sum xs ys = length-append xs ys

pub returns-in_err-entries-clause-reads : goal.returns-in_err-entries-clause-reads
returns-in_err-entries-clause-reads g t c =
    let old = g.S.BlockSource.view c.args.s.now in
    let p = err_from_is_err_and c.from_residual.result c.from_residual.ensures.1 in
    rw (p.1, p.2) (stops-after old old (g.S.BlockSource.view c.level_of.new.s) (λ find. level_of find (9 - c.args.deeper) c.args.bid) (λ find. all_counted (subs_from find old.eof c.args.deeper c.args.room c.args.bid))
    (later-same old) (λ find h fault e. ap all_counted (subs-fault find old.eof c.args.deeper c.args.room c.args.bid fault c.if-bid-eq0.false c.requires e)) c.in_err-entries.field-0.0 c.in_err-entries.ensures.reads)

pub returns-then-deeper-eq0-clause-reads : goal.returns-then-deeper-eq0-clause-reads
returns-then-deeper-eq0-clause-reads g t c =
    let old = g.S.BlockSource.view c.args.s.now in
    let mid = g.S.BlockSource.view c.level_of.new.s in
    let eof = old.eof in
    let deeper = c.args.deeper in
    let es = c.deref-entry-items.result.now in
    let here : (find : ℕ → Option (List ℕ)) → old.holds find → subs_from find eof deeper c.args.room c.args.bid ≡ rows (sub_row find eof deeper) c.args.room es =
    λ find h. subs-read find eof deeper c.args.room c.args.bid es c.if-bid-eq0.false c.requires (c.in_ok-entries.ensures.reads find h ∙ ap Ok (sym c.deref-entry-items.ensures.value)) in
    let i = c.loop-entry.entry-index in
    let left = c.loop-entry.left in
    let so_far = c.args.room - left in
    let now = g.S.BlockSource.view c.loop-entry.s in
    let test = c.loop-entry-test.true in
    λ find h. ap all_counted (here find h)
    ∙ counting-fault length mid now so_far (λ find. rows (sub_row find eof deeper) left (drop i es)) (λ find. rows (sub_row find eof deeper) c.args.room es) c.loop-entry.invariant.1
    find (c.level_of.ensures.later.told find h) Deep (sub-deep find eof deeper left es i no_entry c.if-deeper-eq0.true (omega (arith, test)))

pub returns-then-left-eq0-clause-reads : goal.returns-then-left-eq0-clause-reads
returns-then-left-eq0-clause-reads g t c =
    let old = g.S.BlockSource.view c.args.s.now in
    let mid = g.S.BlockSource.view c.level_of.new.s in
    let eof = old.eof in
    let deeper = c.args.deeper in
    let es = c.deref-entry-items.result.now in
    let here : (find : ℕ → Option (List ℕ)) → old.holds find → subs_from find eof deeper c.args.room c.args.bid ≡ rows (sub_row find eof deeper) c.args.room es =
    λ find h. subs-read find eof deeper c.args.room c.args.bid es c.if-bid-eq0.false c.requires (c.in_ok-entries.ensures.reads find h ∙ ap Ok (sym c.deref-entry-items.ensures.value)) in
    let i = c.loop-entry.entry-index in
    let left = c.loop-entry.left in
    let so_far = c.args.room - left in
    let now = g.S.BlockSource.view c.loop-entry.s in
    let test = c.loop-entry-test.true in
    let some = c.if-deeper-eq0.false in
    λ find h. ap all_counted (here find h)
    ∙ counting-fault length mid now so_far (λ find. rows (sub_row find eof deeper) left (drop i es)) (λ find. rows (sub_row find eof deeper) c.args.room es) c.loop-entry.invariant.1
    find (c.level_of.ensures.later.told find h) Many (sub-many find eof deeper left es i no_entry (omega (arith, some)) c.if-left-eq0.true (omega (arith, test)))

pub returns-in_err-measure_data-clause-reads : goal.returns-in_err-measure_data-clause-reads
returns-in_err-measure_data-clause-reads g t c =
    let old = g.S.BlockSource.view c.args.s.now in
    let mid = g.S.BlockSource.view c.level_of.new.s in
    let eof = old.eof in
    let deeper = c.args.deeper in
    let es = c.deref-entry-items.result.now in
    let here : (find : ℕ → Option (List ℕ)) → old.holds find → subs_from find eof deeper c.args.room c.args.bid ≡ rows (sub_row find eof deeper) c.args.room es =
    λ find h. subs-read find eof deeper c.args.room c.args.bid es c.if-bid-eq0.false c.requires (c.in_ok-entries.ensures.reads find h ∙ ap Ok (sym c.deref-entry-items.ensures.value)) in
    let i = c.loop-entry.entry-index in
    let left = c.loop-entry.left in
    let so_far = c.args.room - left in
    let now = g.S.BlockSource.view c.loop-entry.s in
    let test = c.loop-entry-test.true in
    let some = c.if-deeper-eq0.false in
    let more = c.if-left-eq0.false in
    let entry = get_or es i no_entry in
    let same : now.eof ≡ eof = c.loop-entry.invariant.1.later.eof ∙ c.level_of.ensures.later.eof in
    let new = g.S.BlockSource.view c.measure_data.new.s in
    let stop = c.in_err-measure_data.field-0.0 in
    let inside = counting-stop length mid now new so_far (λ find. measured (blocks_of find now.eof entry.content)) (λ find. rows (sub_row find eof deeper) left (drop i es)) (λ find. rows (sub_row find eof deeper) c.args.room es) c.loop-entry.invariant.1
    (λ find h fault e. count-data-fault find eof deeper left es i no_entry fault (omega (arith, some)) (omega (arith, more)) (omega (arith, test))
    (ap (λ (n : ℕ). measured (blocks_of find n entry.content)) (sym same) ∙ e)) stop c.in_err-measure_data.ensures.reads in
    let p = err_from_is_err_and c.from_residual-in_err-measure_data.result c.from_residual-in_err-measure_data.ensures.1 in
    rw (p.1, p.2) (stops-after old mid new (λ find. all_counted (rows (sub_row find eof deeper) c.args.room es)) (λ find. all_counted (subs_from find eof deeper c.args.room c.args.bid))
    c.level_of.ensures.later (λ find h fault e. ap all_counted (here find h) ∙ e) stop inside)

pub returns-in_err-inner-clause-reads : goal.returns-in_err-inner-clause-reads
returns-in_err-inner-clause-reads g t c =
    let old = g.S.BlockSource.view c.args.s.now in
    let mid = g.S.BlockSource.view c.level_of.new.s in
    let eof = old.eof in
    let deeper = c.args.deeper in
    let es = c.deref-entry-items.result.now in
    let here : (find : ℕ → Option (List ℕ)) → old.holds find → subs_from find eof deeper c.args.room c.args.bid ≡ rows (sub_row find eof deeper) c.args.room es =
    λ find h. subs-read find eof deeper c.args.room c.args.bid es c.if-bid-eq0.false c.requires (c.in_ok-entries.ensures.reads find h ∙ ap Ok (sym c.deref-entry-items.ensures.value)) in
    let i = c.loop-entry.entry-index in
    let left = c.loop-entry.left in
    let so_far = c.args.room - left in
    let now = g.S.BlockSource.view c.loop-entry.s in
    let test = c.loop-entry-test.true in
    let some = c.if-deeper-eq0.false in
    let more = c.if-left-eq0.false in
    let entry = get_or es i no_entry in
    let same : now.eof ≡ eof = c.loop-entry.invariant.1.later.eof ∙ c.level_of.ensures.later.eof in
    let read = g.S.BlockSource.view c.measure_data.new.s in
    let new = g.S.BlockSource.view c.count_from.new.s in
    let bytes = c.in_ok-measure_data.field-0 in
    let stop = c.in_err-inner.field-0.0 in
    let same_then : read.eof ≡ eof = c.measure_data.ensures.later.eof ∙ same in
    let below = stops-after now read new (λ find. all_counted (subs_from find read.eof (deeper - 1) (left - 1) entry.subnodes)) (λ find. rows (sub_row find eof deeper) left (drop i es)) c.measure_data.ensures.later
    (λ find h fault e. count-inner-fault find eof deeper left es i no_entry bytes fault (omega (arith, some)) (omega (arith, more)) (omega (arith, test))
    (ap (λ (n : ℕ). measured (blocks_of find n entry.content)) (sym same) ∙ c.in_ok-measure_data.ensures.reads find h)
    (ap (λ (n : ℕ). all_counted (subs_from find n (deeper - 1) (left - 1) entry.subnodes)) (sym same_then) ∙ e)) stop c.in_err-inner.ensures.reads in
    let inside = counting-stop length mid now new so_far (λ find. rows (sub_row find eof deeper) left (drop i es)) (λ find. rows (sub_row find eof deeper) left (drop i es)) (λ find. rows (sub_row find eof deeper) c.args.room es) c.loop-entry.invariant.1
    (λ find h fault e. e) stop below in
    let p = err_from_is_err_and c.from_residual-in_err-inner.result c.from_residual-in_err-inner.ensures.1 in
    rw (p.1, p.2) (stops-after old mid new (λ find. all_counted (rows (sub_row find eof deeper) c.args.room es)) (λ find. all_counted (subs_from find eof deeper c.args.room c.args.bid))
    c.level_of.ensures.later (λ find h fault e. ap all_counted (here find h) ∙ e) stop inside)

pub loop-entry-preserved : goal.loop-entry-preserved
loop-entry-preserved g t c =
    let old = g.S.BlockSource.view c.args.s.now in
    let mid = g.S.BlockSource.view c.level_of.new.s in
    let eof = old.eof in
    let deeper = c.args.deeper in
    let es = c.deref-entry-items.result.now in
    let here : (find : ℕ → Option (List ℕ)) → old.holds find → subs_from find eof deeper c.args.room c.args.bid ≡ rows (sub_row find eof deeper) c.args.room es =
    λ find h. subs-read find eof deeper c.args.room c.args.bid es c.if-bid-eq0.false c.requires (c.in_ok-entries.ensures.reads find h ∙ ap Ok (sym c.deref-entry-items.ensures.value)) in
    let i = c.loop-entry.entry-index in
    let left = c.loop-entry.left in
    let so_far = c.args.room - left in
    let now = g.S.BlockSource.view c.loop-entry.s in
    let test = c.loop-entry-test.true in
    let some = c.if-deeper-eq0.false in
    let more = c.if-left-eq0.false in
    let entry = get_or es i no_entry in
    let same : now.eof ≡ eof = c.loop-entry.invariant.1.later.eof ∙ c.level_of.ensures.later.eof in
    let read = g.S.BlockSource.view c.measure_data.new.s in
    let new = g.S.BlockSource.view c.count_from.new.s in
    let bytes = c.in_ok-measure_data.field-0 in
    let all = c.in_ok-inner.inner.all in
    let same_then : read.eof ≡ eof = c.measure_data.ensures.later.eof ∙ same in
    let few = c.in_ok-inner.ensures.few in
    let within = c.loop-entry.invariant.0 in
    let later = later-then now read new c.measure_data.ensures.later c.count_from.ensures.later in
    let one : (find : ℕ → Option (List ℕ)) → now.holds find → OneMore find eof deeper left all es i =
    λ find h. one-more find eof deeper left es i no_entry bytes all (omega (arith, some)) (omega (arith, more)) (omega (arith, test))
    (ap (λ (n : ℕ). measured (blocks_of find n entry.content)) (sym same) ∙ c.in_ok-measure_data.ensures.reads find h)
    (ap (λ (n : ℕ). all_counted (subs_from find n (deeper - 1) (left - 1) entry.subnodes)) (sym same_then) ∙ c.in_ok-inner.ensures.reads find (c.measure_data.ensures.later.told find h)) in
    let every = counting-next length mid now new so_far (1 + all) (λ find. rows (sub_row find eof deeper) left (drop i es)) (λ find. rows (sub_row find eof deeper) (left - (1 + all)) (drop (i + 1) es))
    (λ find. rows (sub_row find eof deeper) c.args.room es) all-sum c.loop-entry.invariant.1 later (λ find h. let m = one find h in (m.here, m.whole, m.steps)) in
    let direct = counting-next directs mid now new i 1 (λ find. rows (sub_row find eof deeper) left (drop i es)) (λ find. rows (sub_row find eof deeper) (left - (1 + all)) (drop (i + 1) es))
    (λ find. rows (sub_row find eof deeper) c.args.room es) directs-sum c.loop-entry.invariant.2 later (λ find h. let m = one find h in (m.here, m.direct, m.steps)) in
    let count : so_far + (1 + all) ≡ c.args.room - (left - (1 + all)) = omega (arith, within, few, more) in (
      omega (arith, within),
      let at : ℕ → Type 0 = λ n. Counting length mid new n (λ find. rows (sub_row find eof deeper) (left - (1 + all)) (drop (i + 1) es)) (λ find. rows (sub_row find eof deeper) c.args.room es) in
          subst at count every,
      direct,
    )

pub returns-clause-direct : goal.returns-clause-direct
returns-clause-direct g t c =
    let old = g.S.BlockSource.view c.args.s.now in
    let mid = g.S.BlockSource.view c.level_of.new.s in
    let eof = old.eof in
    let deeper = c.args.deeper in
    let es = c.deref-entry-items.result.now in
    let here : (find : ℕ → Option (List ℕ)) → old.holds find → subs_from find eof deeper c.args.room c.args.bid ≡ rows (sub_row find eof deeper) c.args.room es =
    λ find h. subs-read find eof deeper c.args.room c.args.bid es c.if-bid-eq0.false c.requires (c.in_ok-entries.ensures.reads find h ∙ ap Ok (sym c.deref-entry-items.ensures.value)) in
    let i = c.loop-entry.entry-index in
    let left = c.loop-entry.left in
    let so_far = c.args.room - left in
    let now = g.S.BlockSource.view c.loop-entry.s in
    let test = c.loop-entry-test.false in
    let end = c.loop-entry.auto.entry-index-end in
    let whole = c.in_ok-entries.entries.ok in
    let value = ap length c.deref-entry-items.ensures.value in
    let len = c.len.ensures in
    let count : i ≡ c.len.result = omega (arith, test, end, whole, value, len) in
    λ find h. ap counted (here find h)
    ∙ counting-end directs mid now i (λ find. rows (sub_row find eof deeper) left (drop i es)) (λ find. rows (sub_row find eof deeper) c.args.room es)
    c.loop-entry.invariant.2 refl (λ find. rows-end (sub_row find eof deeper) left es i (omega (arith, test))) find (c.level_of.ensures.later.told find h) ∙ ap Ok count

pub returns-clause-reads : goal.returns-clause-reads
returns-clause-reads g t c =
    let old = g.S.BlockSource.view c.args.s.now in
    let mid = g.S.BlockSource.view c.level_of.new.s in
    let eof = old.eof in
    let deeper = c.args.deeper in
    let es = c.deref-entry-items.result.now in
    let here : (find : ℕ → Option (List ℕ)) → old.holds find → subs_from find eof deeper c.args.room c.args.bid ≡ rows (sub_row find eof deeper) c.args.room es =
    λ find h. subs-read find eof deeper c.args.room c.args.bid es c.if-bid-eq0.false c.requires (c.in_ok-entries.ensures.reads find h ∙ ap Ok (sym c.deref-entry-items.ensures.value)) in
    let i = c.loop-entry.entry-index in
    let left = c.loop-entry.left in
    let so_far = c.args.room - left in
    let now = g.S.BlockSource.view c.loop-entry.s in
    let test = c.loop-entry-test.false in
    λ find h. ap all_counted (here find h)
    ∙ counting-end length mid now so_far (λ find. rows (sub_row find eof deeper) left (drop i es)) (λ find. rows (sub_row find eof deeper) c.args.room es)
    c.loop-entry.invariant.1 refl (λ find. rows-end (sub_row find eof deeper) left es i (omega (arith, test))) find (c.level_of.ensures.later.told find h)
