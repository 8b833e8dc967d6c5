use Rattle.std.proofs.Common.{◌≡◌, ℕ, ◌+◌, ◌-◌, List, ◌++◌, length, drop, get_or, Option, Ok, sym, ap, subst, ◌∙◌, arith, length-append}
use Rattle.std.proofs.lemmas.List.{length-map}
use Rattle.std.proofs.lemmas.Result.{err_from_is_err_and}
use Rattle.pst_base.specs.declared.subs.Sub.{Sub}
use Rattle.pst_base.specs.Flat.{Flat}
use Rattle.pst_base.specs.Subs.{one_deeper, flattened}
use Rattle.data_tree.specs.Tree.{blocks_of}
use Rattle.data_tree.proofs.Steps.{before, Along, later-same, later-then, stops-after, along-next, along-stop, along-end}
use Rattle.subnode_tree.specs.declared.blocks.SubEntry.{SubEntry}
use Rattle.subnode_tree.specs.Subnodes.{level_of, rows, subs_from}
use Rattle.subnode_tree.proofs.RowSteps.{rows-end}
use Rattle.subnode_tree.proofs.SubSteps.{sub_row, sub_here, subs-read, subs-fault, sub-deep, sub-many, sub-data-fault, sub-inner-fault, sub-step, flattened-more}
use Rattle.subnode_tree.proofs.subs.+subs_from.Goals as goal

abbrev no_entry : SubEntry
no_entry = record { level = 0; nid = record { bits = 0 }; content = record { bits = 0 }; subnodes = record { bits = 0 } }

pub returns-in_err-entries-clause-reads : goal.returns-in_err-entries-clause-reads
returns-in_err-entries-clause-reads g t c =
    let old = g.S.BlockSource.view c.args.s.now in
    let p = err_from_is_err_and c.from_residual.result c.from_residual.ensures.1 in
    rw (p.1, p.2) (stops-after old old (g.S.BlockSource.view c.level_of.new.s) (λ find. level_of find (9 - c.args.deeper) c.args.bid) (λ find. subs_from find old.eof c.args.deeper c.args.room c.args.bid)
    (later-same old) (λ find h fault e. subs-fault find old.eof c.args.deeper c.args.room c.args.bid fault c.if-bid-eq0.false c.requires e) c.in_err-entries.field-0.0 c.in_err-entries.ensures.reads)

pub returns-then-deeper-eq0-clause-reads : goal.returns-then-deeper-eq0-clause-reads
returns-then-deeper-eq0-clause-reads g t c =
    let old = g.S.BlockSource.view c.args.s.now in
    let mid = g.S.BlockSource.view c.level_of.new.s in
    let eof = old.eof in
    let deeper = c.args.deeper in
    let es = c.deref-entry-items.result.now in
    let here : (find : ℕ → Option (List ℕ)) → old.holds find → subs_from find eof deeper c.args.room c.args.bid ≡ rows (sub_row find eof deeper) c.args.room es =
    λ find h. subs-read find eof deeper c.args.room c.args.bid es c.if-bid-eq0.false c.requires (c.in_ok-entries.ensures.reads find h ∙ ap Ok (sym c.deref-entry-items.ensures.value)) in
    let i = c.loop-entry.entry-index in
    let left = c.loop-entry.left in
    let found = flattened c.loop-entry.found.items in
    let now = g.S.BlockSource.view c.loop-entry.s in
    let test = c.loop-entry-test.true in
    λ find h. here find h ∙ sym (c.loop-entry.invariant.1.so_far find (c.level_of.ensures.later.told find h))
    ∙ ap (before found) (sub-deep find eof deeper left es i no_entry c.if-deeper-eq0.true (omega (arith, test)))

pub returns-then-left-eq0-clause-reads : goal.returns-then-left-eq0-clause-reads
returns-then-left-eq0-clause-reads g t c =
    let old = g.S.BlockSource.view c.args.s.now in
    let mid = g.S.BlockSource.view c.level_of.new.s in
    let eof = old.eof in
    let deeper = c.args.deeper in
    let es = c.deref-entry-items.result.now in
    let here : (find : ℕ → Option (List ℕ)) → old.holds find → subs_from find eof deeper c.args.room c.args.bid ≡ rows (sub_row find eof deeper) c.args.room es =
    λ find h. subs-read find eof deeper c.args.room c.args.bid es c.if-bid-eq0.false c.requires (c.in_ok-entries.ensures.reads find h ∙ ap Ok (sym c.deref-entry-items.ensures.value)) in
    let i = c.loop-entry.entry-index in
    let left = c.loop-entry.left in
    let found = flattened c.loop-entry.found.items in
    let now = g.S.BlockSource.view c.loop-entry.s in
    let test = c.loop-entry-test.true in
    let some = c.if-deeper-eq0.false in
    λ find h. here find h ∙ sym (c.loop-entry.invariant.1.so_far find (c.level_of.ensures.later.told find h))
    ∙ ap (before found) (sub-many find eof deeper left es i no_entry (omega (arith, some)) c.if-left-eq0.true (omega (arith, test)))

pub returns-in_err-blocks-clause-reads : goal.returns-in_err-blocks-clause-reads
returns-in_err-blocks-clause-reads g t c =
    let old = g.S.BlockSource.view c.args.s.now in
    let mid = g.S.BlockSource.view c.level_of.new.s in
    let eof = old.eof in
    let deeper = c.args.deeper in
    let es = c.deref-entry-items.result.now in
    let here : (find : ℕ → Option (List ℕ)) → old.holds find → subs_from find eof deeper c.args.room c.args.bid ≡ rows (sub_row find eof deeper) c.args.room es =
    λ find h. subs-read find eof deeper c.args.room c.args.bid es c.if-bid-eq0.false c.requires (c.in_ok-entries.ensures.reads find h ∙ ap Ok (sym c.deref-entry-items.ensures.value)) in
    let i = c.loop-entry.entry-index in
    let left = c.loop-entry.left in
    let found = flattened c.loop-entry.found.items in
    let now = g.S.BlockSource.view c.loop-entry.s in
    let test = c.loop-entry-test.true in
    let some = c.if-deeper-eq0.false in
    let more = c.if-left-eq0.false in
    let entry = get_or es i no_entry in
    let same : now.eof ≡ eof = c.loop-entry.invariant.1.later.eof ∙ c.level_of.ensures.later.eof in
    let new = g.S.BlockSource.view c.read_data.new.s in
    let stop = c.in_err-blocks.field-0.0 in
    let inside = along-stop mid now new found (λ find. blocks_of find now.eof entry.content) (λ find. rows (sub_row find eof deeper) left (drop i es)) (λ find. rows (sub_row find eof deeper) c.args.room es) c.loop-entry.invariant.1
    (λ find h fault e. sub-data-fault find eof deeper left es i no_entry fault (omega (arith, some)) (omega (arith, more)) (omega (arith, test))
    (ap (λ (n : ℕ). blocks_of find n entry.content) (sym same) ∙ e)) stop c.in_err-blocks.ensures.reads in
    let p = err_from_is_err_and c.from_residual-in_err-blocks.result c.from_residual-in_err-blocks.ensures.1 in
    rw (p.1, p.2) (stops-after old mid new (λ find. rows (sub_row find eof deeper) c.args.room es) (λ find. subs_from find eof deeper c.args.room c.args.bid)
    c.level_of.ensures.later (λ find h fault e. here find h ∙ e) stop inside)

pub returns-in_err-subs-clause-reads : goal.returns-in_err-subs-clause-reads
returns-in_err-subs-clause-reads g t c =
    let old = g.S.BlockSource.view c.args.s.now in
    let mid = g.S.BlockSource.view c.level_of.new.s in
    let eof = old.eof in
    let deeper = c.args.deeper in
    let es = c.deref-entry-items.result.now in
    let here : (find : ℕ → Option (List ℕ)) → old.holds find → subs_from find eof deeper c.args.room c.args.bid ≡ rows (sub_row find eof deeper) c.args.room es =
    λ find h. subs-read find eof deeper c.args.room c.args.bid es c.if-bid-eq0.false c.requires (c.in_ok-entries.ensures.reads find h ∙ ap Ok (sym c.deref-entry-items.ensures.value)) in
    let i = c.loop-entry.entry-index in
    let left = c.loop-entry.left in
    let found = flattened c.loop-entry.found.items in
    let now = g.S.BlockSource.view c.loop-entry.s in
    let test = c.loop-entry-test.true in
    let some = c.if-deeper-eq0.false in
    let more = c.if-left-eq0.false in
    let entry = get_or es i no_entry in
    let same : now.eof ≡ eof = c.loop-entry.invariant.1.later.eof ∙ c.level_of.ensures.later.eof in
    let read = g.S.BlockSource.view c.read_data.new.s in
    let new = g.S.BlockSource.view c.subs_from.new.s in
    let blocks = c.in_ok-blocks.blocks in
    let stop = c.in_err-subs.field-0.0 in
    let same_then : read.eof ≡ eof = c.read_data.ensures.later.eof ∙ same in
    let below = stops-after now read new (λ find. subs_from find read.eof (deeper - 1) (left - 1) entry.subnodes) (λ find. rows (sub_row find eof deeper) left (drop i es)) c.read_data.ensures.later
    (λ find h fault e. sub-inner-fault find eof deeper left es i no_entry blocks fault (omega (arith, some)) (omega (arith, more)) (omega (arith, test))
    (ap (λ (n : ℕ). blocks_of find n entry.content) (sym same) ∙ c.in_ok-blocks.ensures.reads find h)
    (ap (λ (n : ℕ). subs_from find n (deeper - 1) (left - 1) entry.subnodes) (sym same_then) ∙ e)) stop c.in_err-subs.ensures.reads in
    let inside = along-stop mid now new found (λ find. rows (sub_row find eof deeper) left (drop i es)) (λ find. rows (sub_row find eof deeper) left (drop i es)) (λ find. rows (sub_row find eof deeper) c.args.room es) c.loop-entry.invariant.1 (λ find h fault e. e) stop below in
    let p = err_from_is_err_and c.from_residual-in_err-subs.result c.from_residual-in_err-subs.ensures.1 in
    rw (p.1, p.2) (stops-after old mid new (λ find. rows (sub_row find eof deeper) c.args.room es) (λ find. subs_from find eof deeper c.args.room c.args.bid)
    c.level_of.ensures.later (λ find h fault e. here find h ∙ e) stop inside)

pub loop-entry-preserved : goal.loop-entry-preserved
loop-entry-preserved g t c =
    let old = g.S.BlockSource.view c.args.s.now in
    let mid = g.S.BlockSource.view c.level_of.new.s in
    let eof = old.eof in
    let deeper = c.args.deeper in
    let es = c.deref-entry-items.result.now in
    let here : (find : ℕ → Option (List ℕ)) → old.holds find → subs_from find eof deeper c.args.room c.args.bid ≡ rows (sub_row find eof deeper) c.args.room es =
    λ find h. subs-read find eof deeper c.args.room c.args.bid es c.if-bid-eq0.false c.requires (c.in_ok-entries.ensures.reads find h ∙ ap Ok (sym c.deref-entry-items.ensures.value)) in
    let i = c.loop-entry.entry-index in
    let left = c.loop-entry.left in
    let found = flattened c.loop-entry.found.items in
    let now = g.S.BlockSource.view c.loop-entry.s in
    let test = c.loop-entry-test.true in
    let some = c.if-deeper-eq0.false in
    let more = c.if-left-eq0.false in
    let entry = get_or es i no_entry in
    let same : now.eof ≡ eof = c.loop-entry.invariant.1.later.eof ∙ c.level_of.ensures.later.eof in
    let read = g.S.BlockSource.view c.read_data.new.s in
    let new = g.S.BlockSource.view c.subs_from.new.s in
    let blocks = c.in_ok-blocks.blocks in
    let inner : List Flat = c.in_ok-subs.subs in
    let same_then : read.eof ≡ eof = c.read_data.ensures.later.eof ∙ same in
    let sub : Sub = record { nid = entry.nid; blocks = blocks; subs = inner } in
    let made : flattened c.push.new.self.items ≡ found ++ sub_here entry blocks inner =
    ap flattened c.in_ok-push.ensures.items ∙ flattened-more c.loop-entry.found.items sub in
    let count : c.in_ok-subs.count ≡ length inner = c.in_ok-subs.ensures.counted in
    let deep = length-map inner one_deeper in
    let both = length-append found (sub_here entry blocks inner) in
    let top : length (sub_here entry blocks inner) ≡ 1 + length inner = omega (arith, deep) in
    let all : length (flattened c.push.new.self.items) ≡ length found + (1 + length inner) = ap length made ∙ both ∙ ap (λ (n : ℕ). length found + n) top in
    let few = c.in_ok-subs.ensures.few in
    let sum = c.loop-entry.invariant.0 in
    let fewer : left - (1 + length inner) ≡ left - (1 + c.in_ok-subs.count) = ap (λ (n : ℕ). left - (1 + n)) (sym count) in
    let step = along-next mid now new found (sub_here entry blocks inner) (λ find. rows (sub_row find eof deeper) left (drop i es)) (λ find. rows (sub_row find eof deeper) (left - (1 + c.in_ok-subs.count)) (drop (i + 1) es))
    (λ find. rows (sub_row find eof deeper) c.args.room es) c.loop-entry.invariant.1 (later-then now read new c.read_data.ensures.later c.subs_from.ensures.later)
    (λ find h. sub-step find eof deeper left es i no_entry blocks inner (omega (arith, some)) (omega (arith, more)) (omega (arith, test))
    (ap (λ (n : ℕ). blocks_of find n entry.content) (sym same) ∙ c.in_ok-blocks.ensures.reads find h)
    (ap (λ (n : ℕ). subs_from find n (deeper - 1) (left - 1) entry.subnodes) (sym same_then) ∙ c.in_ok-subs.ensures.reads find (c.read_data.ensures.later.told find h))
    ∙ ap (λ (n : ℕ). before (sub_here entry blocks inner) (rows (sub_row find eof deeper) n (drop (i + 1) es))) fewer) in (
      omega (arith, all, few, sum, count, more),
      let at : List Flat → Type 0 = λ out. Along mid new out (λ find. rows (sub_row find eof deeper) (left - (1 + c.in_ok-subs.count)) (drop (i + 1) es)) (λ find. rows (sub_row find eof deeper) c.args.room es) in
          subst at (sym made) step,
    )

pub returns-clause-reads : goal.returns-clause-reads
returns-clause-reads g t c =
    let old = g.S.BlockSource.view c.args.s.now in
    let mid = g.S.BlockSource.view c.level_of.new.s in
    let eof = old.eof in
    let deeper = c.args.deeper in
    let es = c.deref-entry-items.result.now in
    let here : (find : ℕ → Option (List ℕ)) → old.holds find → subs_from find eof deeper c.args.room c.args.bid ≡ rows (sub_row find eof deeper) c.args.room es =
    λ find h. subs-read find eof deeper c.args.room c.args.bid es c.if-bid-eq0.false c.requires (c.in_ok-entries.ensures.reads find h ∙ ap Ok (sym c.deref-entry-items.ensures.value)) in
    let i = c.loop-entry.entry-index in
    let left = c.loop-entry.left in
    let found = flattened c.loop-entry.found.items in
    let now = g.S.BlockSource.view c.loop-entry.s in
    let test = c.loop-entry-test.false in
    λ find h. here find h ∙ along-end mid now found (λ find. rows (sub_row find eof deeper) left (drop i es)) (λ find. rows (sub_row find eof deeper) c.args.room es)
    c.loop-entry.invariant.1 (λ find. rows-end (sub_row find eof deeper) left es i (omega (arith, test))) find (c.level_of.ensures.later.told find h)
    ∙ ap Ok (sym c.from_vec-2.ensures)
