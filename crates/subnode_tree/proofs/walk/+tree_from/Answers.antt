use Rattle.std.proofs.Common.{◌≡◌, ℕ, ◌+◌, ◌-◌, List, [], ◌∷◌, ◌++◌, length, drop, get_or, Option, Ok, sym, ap, subst, ◌∙◌, arith, append_assoc, length-append}
use Rattle.std.proofs.lemmas.Result.{err_from_is_err_and}
use Rattle.data_tree.proofs.Steps.{before, Along, later-same, stops-after, along-next, along-stop, along-end}
use Rattle.subnode_tree.specs.declared.blocks.SubEntry.{SubEntry}
use Rattle.subnode_tree.specs.Subnodes.{level_of, rows, tree_from}
use Rattle.subnode_tree.proofs.RowSteps.{row_of, tree-read, tree-fault, rows-end, rows-deep, rows-many, rows-fault, rows-step}
use Rattle.subnode_tree.proofs.walk.+tree_from.Goals as goal

abbrev no_entry : SubEntry
no_entry = record { level = 0; nid = record { bits = 0 }; content = record { bits = 0 }; subnodes = record { bits = 0 } }

pub returns-in_err-entries-clause-reads : goal.returns-in_err-entries-clause-reads
returns-in_err-entries-clause-reads g t c =
    let old = g.S.BlockSource.view c.args.s.now in
    let p = err_from_is_err_and c.from_residual.result c.from_residual.ensures.1 in
    rw (p.1, p.2) (stops-after old old (g.S.BlockSource.view c.level_of.new.s) (λ find. level_of find (9 - c.args.deeper) c.args.bid) (λ find. tree_from find c.args.deeper c.args.room c.args.bid)
    (later-same old) (λ find h fault e. tree-fault find c.args.deeper c.args.room c.args.bid fault c.if-bid-eq0.false c.requires e) c.in_err-entries.field-0.0 c.in_err-entries.ensures.reads)

pub returns-then-deeper-eq0-clause-reads : goal.returns-then-deeper-eq0-clause-reads
returns-then-deeper-eq0-clause-reads g t c =
    let old = g.S.BlockSource.view c.args.s.now in
    let mid = g.S.BlockSource.view c.level_of.new.s in
    let deeper = c.args.deeper in
    let es = c.deref-entry-items.result.now in
    let here : (find : ℕ → Option (List ℕ)) → old.holds find → tree_from find deeper c.args.room c.args.bid ≡ rows (row_of find deeper) c.args.room es =
    λ find h. tree-read find deeper c.args.room c.args.bid es c.if-bid-eq0.false c.requires (c.in_ok-entries.ensures.reads find h ∙ ap Ok (sym c.deref-entry-items.ensures.value)) in
    let i = c.loop-entry.entry-index in
    let left = c.loop-entry.left in
    let found = c.loop-entry.found.items in
    let test = c.loop-entry-test.true in
    λ find h. here find h ∙ sym (c.loop-entry.invariant.1.so_far find (c.level_of.ensures.later.told find h))
    ∙ ap (before found) (rows-deep find deeper left es i no_entry c.if-deeper-eq0.true (omega (arith, test)))

pub returns-then-left-eq0-clause-reads : goal.returns-then-left-eq0-clause-reads
returns-then-left-eq0-clause-reads g t c =
    let old = g.S.BlockSource.view c.args.s.now in
    let mid = g.S.BlockSource.view c.level_of.new.s in
    let deeper = c.args.deeper in
    let es = c.deref-entry-items.result.now in
    let here : (find : ℕ → Option (List ℕ)) → old.holds find → tree_from find deeper c.args.room c.args.bid ≡ rows (row_of find deeper) c.args.room es =
    λ find h. tree-read find deeper c.args.room c.args.bid es c.if-bid-eq0.false c.requires (c.in_ok-entries.ensures.reads find h ∙ ap Ok (sym c.deref-entry-items.ensures.value)) in
    let i = c.loop-entry.entry-index in
    let left = c.loop-entry.left in
    let found = c.loop-entry.found.items in
    let test = c.loop-entry-test.true in
    let some = c.if-deeper-eq0.false in
    λ find h. here find h ∙ sym (c.loop-entry.invariant.1.so_far find (c.level_of.ensures.later.told find h))
    ∙ ap (before found) (rows-many find deeper left es i no_entry (omega (arith, some)) c.if-left-eq0.true (omega (arith, test)))

pub returns-in_err-inner-clause-reads : goal.returns-in_err-inner-clause-reads
returns-in_err-inner-clause-reads g t c =
    let old = g.S.BlockSource.view c.args.s.now in
    let mid = g.S.BlockSource.view c.level_of.new.s in
    let deeper = c.args.deeper in
    let es = c.deref-entry-items.result.now in
    let here : (find : ℕ → Option (List ℕ)) → old.holds find → tree_from find deeper c.args.room c.args.bid ≡ rows (row_of find deeper) c.args.room es =
    λ find h. tree-read find deeper c.args.room c.args.bid es c.if-bid-eq0.false c.requires (c.in_ok-entries.ensures.reads find h ∙ ap Ok (sym c.deref-entry-items.ensures.value)) in
    let i = c.loop-entry.entry-index in
    let left = c.loop-entry.left in
    let found = c.loop-entry.found.items in
    let test = c.loop-entry-test.true in
    let some = c.if-deeper-eq0.false in
    let more = c.if-left-eq0.false in
    let now = g.S.BlockSource.view c.loop-entry.s in
    let new = g.S.BlockSource.view c.tree_from.new.s in
    let stop = c.in_err-inner.field-0.0 in
    let inside = along-stop mid now new found (λ find. tree_from find (deeper - 1) (left - 1) (get_or es i no_entry).subnodes)
    (λ find. rows (row_of find deeper) left (drop i es)) (λ find. rows (row_of find deeper) c.args.room es) c.loop-entry.invariant.1
    (λ find h fault e. rows-fault find deeper left es i no_entry fault (omega (arith, some)) (omega (arith, more)) (omega (arith, test)) e) stop c.in_err-inner.ensures.reads in
    let p = err_from_is_err_and c.from_residual-in_err-inner.result c.from_residual-in_err-inner.ensures.1 in
    rw (p.1, p.2) (stops-after old mid new (λ find. rows (row_of find deeper) c.args.room es) (λ find. tree_from find deeper c.args.room c.args.bid)
    c.level_of.ensures.later (λ find h fault e. here find h ∙ e) stop inside)

pub loop-entry-preserved : goal.loop-entry-preserved
loop-entry-preserved g t c =
    let i = c.loop-entry.entry-index in
    let left = c.loop-entry.left in
    let found = c.loop-entry.found.items in
    let deeper = c.args.deeper in
    let es = c.deref-entry-items.result.now in
    let mid = g.S.BlockSource.view c.level_of.new.s in
    let now = g.S.BlockSource.view c.loop-entry.s in
    let new = g.S.BlockSource.view c.tree_from.new.s in
    let entry = get_or es i no_entry in
    let inner = c.in_ok-inner.inner.items in
    let test = c.loop-entry-test.true in
    let some = c.if-deeper-eq0.false in
    let more = c.if-left-eq0.false in
    let made : c.extend_from_slice.new.self.items ≡ found ++ (entry ∷ inner) =
    c.in_ok-extend_from_slice.ensures.items ∙ ap (λ (xs : List SubEntry). xs ++ c.as_slice.result.now) c.in_ok-push.ensures.items
    ∙ append_assoc found (entry ∷ []) c.as_slice.result.now ∙ ap (λ (xs : List SubEntry). found ++ (entry ∷ xs)) c.as_slice.ensures.value in
    let whole = c.in_ok-inner.inner.ok in
    let counted = c.len.ensures in
    let count : c.len.result ≡ length inner = omega (arith, whole, counted) in
    let all : length c.extend_from_slice.new.self.items ≡ length found + (1 + length inner) =
    let e = length-append found (entry ∷ inner) in let f : length found + length (entry ∷ inner) ≡ length found + (1 + length inner) = omega arith in ap length made ∙ e ∙ f in
    let few = c.in_ok-inner.ensures.few in
    let sum = c.loop-entry.invariant.0 in
    let same : left - (1 + length inner) ≡ left - (1 + c.len.result) = ap (λ (n : ℕ). left - (1 + n)) (sym count) in
    let step = along-next mid now new found (entry ∷ inner) (λ find. rows (row_of find deeper) left (drop i es)) (λ find. rows (row_of find deeper) (left - (1 + c.len.result)) (drop (i + 1) es))
    (λ find. rows (row_of find deeper) c.args.room es) c.loop-entry.invariant.1 c.tree_from.ensures.later
    (λ find h. rows-step find deeper left es i no_entry inner (omega (arith, some)) (omega (arith, more)) (omega (arith, test)) (c.in_ok-inner.ensures.reads find h)
    ∙ ap (λ (n : ℕ). before (entry ∷ inner) (rows (row_of find deeper) n (drop (i + 1) es))) same) in (
      omega (arith, all, few, sum, count, more),
      let at : List SubEntry → Type 0 = λ out. Along mid new out (λ find. rows (row_of find deeper) (left - (1 + c.len.result)) (drop (i + 1) es)) (λ find. rows (row_of find deeper) c.args.room es) in
          subst at (sym made) step,
    )

pub returns-clause-reads : goal.returns-clause-reads
returns-clause-reads g t c =
    let old = g.S.BlockSource.view c.args.s.now in
    let mid = g.S.BlockSource.view c.level_of.new.s in
    let deeper = c.args.deeper in
    let es = c.deref-entry-items.result.now in
    let here : (find : ℕ → Option (List ℕ)) → old.holds find → tree_from find deeper c.args.room c.args.bid ≡ rows (row_of find deeper) c.args.room es =
    λ find h. tree-read find deeper c.args.room c.args.bid es c.if-bid-eq0.false c.requires (c.in_ok-entries.ensures.reads find h ∙ ap Ok (sym c.deref-entry-items.ensures.value)) in
    let i = c.loop-entry.entry-index in
    let left = c.loop-entry.left in
    let found = c.loop-entry.found.items in
    let test = c.loop-entry-test.false in
    let end = c.loop-entry.auto.entry-index-end in
    λ find h. here find h ∙ along-end mid (g.S.BlockSource.view c.loop-entry.s) found (λ find. rows (row_of find deeper) left (drop i es)) (λ find. rows (row_of find deeper) c.args.room es)
    c.loop-entry.invariant.1 (λ find. rows-end (row_of find deeper) left es i (omega (arith, test))) find (c.level_of.ensures.later.told find h)
