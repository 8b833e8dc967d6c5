-- Subnodes that are planned read as they are.
use Rattle.std.proofs.Common.{true, false, ◌≡◌, ℕ, zero, suc, ◌+◌, ◌-◌, ◌*◌, ◌/◌, ◌%◌, ◌^◌, ◌<◌, ◌≤◌, eqb, List, [], ◌∷◌, ◌++◌, drop, length, map, take, get_or, Option, Some, Result, Ok, refl, sym, ap, subst, ◌∙◌, arith, append_assoc, length-append, append-nil}
use Rattle.std.proofs.lemmas.Bool.{ne_eqb}
use Rattle.std.proofs.lemmas.List.{length-map, map-append, take_all, take_more}
use Rattle.pst_base.specs.declared.ids.Bid.{Bid}
use Rattle.pst_base.specs.declared.subs.Sub.{Sub}
use Rattle.pst_base.specs.Flat.{Flat}
use Rattle.pst_base.specs.Ids.{key_of}
use Rattle.pst_base.specs.Subs.{flattened, one_deeper}
use Rattle.data_tree.specs.declared.source.TreeStop.{TreeStop}
use Rattle.data_tree.specs.Keys.{count_of, data_keys, keys_of}
use Rattle.data_tree.specs.Tree.{and_then, blocks_of}
use Rattle.data_tree.specs.Plan.{AreFound, AreSmall, IsFound, NamesKept, Reaches, ReadsKept, Rise, above_kept, bids_in, bytes_in, contents, fresh, kept_bids, last_id, placed, plain, unkept}
use Rattle.data_tree.proofs.KeyLaws.{count-append, count-blocks, keys-append}
use Rattle.data_tree.proofs.PieceLaws.{Each, all_from-each, each-append, each-from_all, each-left, each-right}
use Rattle.data_tree.proofs.PlanLaws.{plain-append, rise-append}
use Rattle.data_tree.proofs.SizeLaws.{Small}
use Rattle.subnode_tree.specs.declared.blocks.SubEntry.{SubEntry}
use Rattle.subnode_tree.specs.declared.tables.Row.{Row}
use Rattle.subnode_tree.specs.Bids.{bids_each, sub_bids_of}
use Rattle.subnode_tree.specs.Keys.{each_keys, listed_in, ok_entries, sub_keys, sub_keys_from}
use Rattle.subnode_tree.specs.Plan.{AreAmong, ArePlaced, IsAmong, IsForm, Plans, SubsNameKept, SubsReach, SubsReadAs, SubsReadKept, ascending, data_in, first_list, kept_in, nothing, paired, unkept_in}
use Rattle.subnode_tree.specs.Subnodes.{branch, branch_with, level_of, rows, subs_from, subs_of, tree_from, tree_of}
use Rattle.subnode_tree.specs.Tables.{Fits, tables}
use Rattle.subnode_tree.proofs.FormLaws.{data-more, each-below, form-top, own, sub_nids}
use Rattle.subnode_tree.proofs.IdLaws.{names-more, rows-last}
use Rattle.subnode_tree.proofs.PairLaws.{Keep, Pair, kept-more, nothing-paired, paired-more, rest-more, unkept-more}
use Rattle.subnode_tree.proofs.RowSteps.{tree-none, tree-read}
use Rattle.subnode_tree.proofs.SubSteps.{flattened-more, subs-read}
use Rattle.subnode_tree.proofs.TableLaws.{bytes-more, entry_as, few-tables, fewer-tables, last-high, plain-tables, rise-tables, room-tables, root-none, root-some, row_nids, small-tables, tables-keys, tables-read}

-- ---- the entries of a level lead to its subnodes

branch-read : (find : ℕ → Option (List ℕ)) (eof deeper room level : ℕ) (x : Sub) (row : Row) → (row.nid).bits ≡ (x.nid).bits → 0 < room → blocks_of find eof row.content ≡ Ok x.blocks
    → subs_from find eof deeper (room - 1) row.subnodes ≡ Ok x.subs → branch_with find eof (subs_from find eof deeper) room (entry_as level row) ≡ Ok (own x ∷ map one_deeper x.subs)
branch-read find eof deeper room level x row nid some content below =
    let left : eqb room 0 ≡ false = ne_eqb room 0 (λ e. absurd (omega arith)) in
    rw (left, content, below) (ap (λ (n : ℕ). Ok (record { level = 0; nid = n; blocks = x.blocks } ∷ map one_deeper x.subs)) nid)

none-below : (find : ℕ → Option (List ℕ)) (eof deeper room : ℕ) (bid : Bid) → bid.bits ≡ 0 → subs_from find eof deeper room bid ≡ Ok []
none-below find eof zero room bid none = rw none refl
none-below find eof (suc deeper) room bid none = rw none refl

-- what stands under the root of a level
level-reads : (find : ℕ → Option (List ℕ)) (eof deeper room : ℕ) (bid : Bid) (xs : List Sub) (rs : List Row) → length rs ≡ length xs → deeper ≤ 8
    → (length rs ≡ 0 → bid.bits ≡ 0) → (0 < length rs → bid.bits ≡ 0 → ⊥) → (0 < length rs → (level : ℕ) → level_of find level bid ≡ Ok (map (entry_as level) rs))
    → Each (λ f. f.level < deeper) (flattened xs)
    → ((deeper : ℕ) → deeper < 8 → Each (λ f. f.level < suc deeper) (flattened xs) → (level : ℕ) → rows (branch_with find eof (subs_from find eof deeper)) room (map (entry_as level) rs) ≡ Ok (flattened xs))
    → subs_from find eof deeper room bid ≡ Ok (flattened xs)
level-reads find eof deeper room bid [] [] same shallow none some read levels reads = none-below find eof deeper room bid (none refl)
level-reads find eof deeper room bid [] (row ∷ rs) same shallow none some read levels reads = absurd (omega arith)
level-reads find eof deeper room bid (x ∷ xs) [] same shallow none some read levels reads = absurd (omega arith)
level-reads find eof zero room bid (x ∷ xs) (row ∷ rs) same shallow none some read levels reads = let low = levels.0 in absurd (omega arith)
level-reads find eof (suc deeper) room bid (x ∷ xs) (row ∷ rs) same shallow none some read levels reads =
    subs-read find eof (suc deeper) room bid (map (entry_as (9 - suc deeper)) (row ∷ rs)) (some (omega arith)) shallow (read (omega arith) (9 - suc deeper)) ∙ reads deeper (omega arith) levels (9 - suc deeper)

-- ---- subnode by subnode

abbrev pub PairFound : (ℕ → Option (List ℕ)) → Pair → Type 0
PairFound find pair = AreFound find pair.0 pair.1

abbrev pub PairAmong : ℕ → List (Bid × List ℕ) → Pair → Type 0
PairAmong next blocks pair = IsAmong next blocks pair.0 pair.1

-- what an entry reaches
abbrev pub reach_of : (ℕ → Option (List ℕ)) → ℕ → SubEntry → List ℕ
reach_of find deeper entry = data_keys find entry.content ++ sub_keys_from find deeper entry.subnodes

-- the blocks and the entries of some subnodes, and what is left of the list of what is kept
pub record Underway (keep : Keep) (xs : List Sub) (rs : List Row) (first next : ℕ) (blocks : List (Bid × List ℕ)) (rest : Keep) : Type 0 where
  pub rise : Rise first blocks
  pub at : next ≡ first + 4 * length blocks
  pub high : next ≤ 2 ^ 63
  pub rest_is : rest ≡ drop (length (flattened xs)) keep
  pub marks : plain blocks ≡ unkept_in keep (flattened xs)
  pub nids : row_nids rs ≡ sub_nids xs
  pub fits : Each Fits rs
  pub small : Each Small blocks
  pub most : 2 * length blocks + 2 * length xs ≤ 2 * length (unkept_in keep (flattened xs)) + length (data_in (flattened xs)) + 2 * length (flattened xs)
  pub room : 24 * length (flattened xs) ≤ bytes_in (contents blocks) + 24 * length xs
  pub ids : Keep
  pub placed : ArePlaced first blocks (paired keep (flattened xs)) ids
  pub names : (find : ℕ → Option (List ℕ)) → Each (IsFound find) blocks → (deeper room level : ℕ) → deeper < 8 → Each (λ f. f.level < suc deeper) (flattened xs) → length (flattened xs) ≤ room
      → and_then (rows (branch (tree_from find deeper)) room (map (entry_as level) rs)) (bids_each find) ≡ Ok ids
  pub reads : (find : ℕ → Option (List ℕ)) → Each (IsFound find) blocks → Each (PairFound find) (paired keep (flattened xs)) → (eof deeper room level : ℕ) → deeper < 8 → Each (λ f. f.level < suc deeper) (flattened xs)
      → length (flattened xs) ≤ room → Each (λ f. bytes_in f.blocks ≤ eof) (flattened xs) → rows (branch_with find eof (subs_from find eof deeper)) room (map (entry_as level) rs) ≡ Ok (flattened xs)
  pub keys : (find : ℕ → Option (List ℕ)) → Each (IsFound find) blocks → (deeper : ℕ) → deeper < 8 → Each (λ f. f.level < suc deeper) (flattened xs) → (level key : ℕ)
      → count_of key (each_keys (reach_of find deeper) (map (entry_as level) rs)) ≡ count_of key (keys_of (kept_in keep (flattened xs))) + count_of key (keys_of (bids_in blocks))

pub underway-start : (keep : Keep) (first : ℕ) → first ≤ 2 ^ 63 → Underway keep [] [] first first [] keep
underway-start keep first high = record {
  rise = tt;
  at = omega arith;
  high = high;
  rest_is = refl;
  marks = refl;
  nids = refl;
  fits = tt;
  small = tt;
  most = omega arith;
  room = omega arith;
  ids = [];
  placed = tt;
  names = λ find found deeper room level low levels few. refl;
  reads = λ find found kept eof deeper room level low levels few small. refl;
  keys = λ find found deeper low levels level key. omega arith;
}

-- what was planned of a subnode
pub record Planned (own_keep : List (Option Bid)) (keep : Keep) (x : Sub) (row : Row) (next end : ℕ) (content below : List (Bid × List ℕ)) : Type 0 where
  pub nid : (row.nid).bits ≡ (x.nid).bits
  pub fits : Fits row
  pub rise : Rise next content
  pub laid : content ≡ fresh next own_keep x.blocks ++ above_kept next own_keep x.blocks
  pub marks : plain content ≡ unkept own_keep x.blocks
  pub small : AreSmall content
  pub most : 2 * length content ≤ 2 * length (unkept own_keep x.blocks) + length x.blocks
  pub names : NamesKept content next own_keep row.content x.blocks
  pub reads : ReadsKept content own_keep row.content x.blocks
  pub reaches : Reaches content (kept_bids own_keep x.blocks) row.content
  pub plans : Plans keep x.subs (next + 4 * length content) row.subnodes below
  pub at : end ≡ next + 4 * length content + 4 * length below
  pub high : end ≤ 2 ^ 63

no-keys : (key : ℕ) (blocks : List (Bid × List ℕ)) → length blocks ≤ 0 → count_of key (keys_of (bids_in blocks)) ≡ 0
no-keys key [] none = refl
no-keys key (block ∷ blocks) none = absurd (omega arith)

count-bids : (key : ℕ) (xs ys : List Bid) → count_of key (keys_of (xs ++ ys)) ≡ count_of key (keys_of xs) + count_of key (keys_of ys)
count-bids key xs ys = ap (count_of key) (keys-append xs ys) ∙ count-append key (keys_of xs) (keys_of ys)

-- blocks among some are among more
among-front : (next : ℕ) (blocks more : List (Bid × List ℕ)) (pair : Pair) → PairAmong next blocks pair → PairAmong next (blocks ++ more) pair
among-front next blocks more pair is = record {
  before = is.before;
  after = is.after ++ more;
  first = is.first;
  at = is.at;
  parts = let here = fresh is.first pair.0 pair.1 ++ above_kept is.first pair.0 pair.1 in
      ap (λ (l : List (Bid × List ℕ)). l ++ more) is.parts ∙ append_assoc is.before (here ++ is.after) more ∙ ap (λ (l : List (Bid × List ℕ)). is.before ++ l) (append_assoc here is.after more);
}

among-behind : (next at : ℕ) (front blocks : List (Bid × List ℕ)) (pair : Pair) → at ≡ next + 4 * length front → PairAmong at blocks pair → PairAmong next (front ++ blocks) pair
among-behind next at front blocks pair start is = record {
  before = front ++ is.before;
  after = is.after;
  first = is.first;
  at = let e = is.at in let both = length-append front is.before in omega arith;
  parts = let here = fresh is.first pair.0 pair.1 ++ above_kept is.first pair.0 pair.1 in
      ap (λ (l : List (Bid × List ℕ)). front ++ l) is.parts ∙ sym (append_assoc front is.before (here ++ is.after));
}

placed-front : (next : ℕ) (blocks more : List (Bid × List ℕ)) (pairs : List Pair) (ids : Keep) → ArePlaced next blocks pairs ids → ArePlaced next (blocks ++ more) pairs ids
unfolding among-front
placed-front next blocks more [] [] all = tt
placed-front next blocks more [] (own ∷ ids) all = absurd all
placed-front next blocks more (pair ∷ pairs) [] all = absurd all
placed-front next blocks more (pair ∷ pairs) (own ∷ ids) all = ((among-front next blocks more pair (all.0).0, (all.0).1), placed-front next blocks more pairs ids all.1)

placed-behind : (next at : ℕ) (front blocks : List (Bid × List ℕ)) (pairs : List Pair) (ids : Keep) → at ≡ next + 4 * length front → ArePlaced at blocks pairs ids → ArePlaced next (front ++ blocks) pairs ids
unfolding among-behind
placed-behind next at front blocks [] [] start all = tt
placed-behind next at front blocks [] (own ∷ ids) start all = absurd all
placed-behind next at front blocks (pair ∷ pairs) [] start all = absurd all
placed-behind next at front blocks (pair ∷ pairs) (own ∷ ids) start all = ((among-behind next at front blocks pair start (all.0).0, (all.0).1), placed-behind next at front blocks pairs ids start all.1)

placed-append : (next : ℕ) (blocks : List (Bid × List ℕ)) (xs ys : List Pair) (ids more : Keep) → ArePlaced next blocks xs ids → ArePlaced next blocks ys more → ArePlaced next blocks (xs ++ ys) (ids ++ more)
placed-append next blocks [] ys [] more all rest = rest
placed-append next blocks [] ys (own ∷ ids) more all rest = absurd all
placed-append next blocks (pair ∷ xs) ys [] more all rest = absurd all
placed-append next blocks (pair ∷ xs) ys (own ∷ ids) more all rest = (all.0, placed-append next blocks xs ys ids more all.1 rest)

placed-count : (next : ℕ) (blocks : List (Bid × List ℕ)) (keep : Keep) (flats : List Flat) (ids : Keep) → ArePlaced next blocks (paired keep flats) ids → length ids ≡ length flats
placed-count next blocks keep [] [] all = refl
placed-count next blocks keep [] (own ∷ ids) all = absurd all
placed-count next blocks keep (f ∷ flats) [] all = absurd all
placed-count next blocks keep (f ∷ flats) (own ∷ ids) all = ap suc (placed-count next blocks (drop 1 keep) flats ids all.1)

placed-each : (next : ℕ) (blocks : List (Bid × List ℕ)) (pairs : List Pair) (ids : Keep) → ArePlaced next blocks pairs ids → Each (PairAmong next blocks) pairs
placed-each next blocks [] ids all = tt
placed-each next blocks (pair ∷ pairs) [] all = absurd all
placed-each next blocks (pair ∷ pairs) (own ∷ ids) all = ((all.0).0, placed-each next blocks pairs ids all.1)

count-each : (key : ℕ) (f : SubEntry → List ℕ) (es : List SubEntry) (e : SubEntry) → count_of key (each_keys f (es ++ e ∷ [])) ≡ count_of key (each_keys f es) + count_of key (f e)
count-each key f [] e = let both = count-append key (f e) [] in omega (arith, both)
count-each key f (first ∷ es) e =
    let more = count-each key f es e in
    let one = count-append key (f first) (each_keys f (es ++ e ∷ [])) in
    let two = count-append key (f first) (each_keys f es) in
    omega (arith, more, one, two)

underway-more : (keep rest others left : Keep) (n : ℕ) (xs : List Sub) (rs : List Row) (first next end : ℕ) (blocks content below : List (Bid × List ℕ)) (x : Sub) (row : Row)
    → others ≡ drop 1 rest → n ≡ length x.subs → left ≡ drop n others → Underway keep xs rs first next blocks rest → Planned (first_list rest) others x row next end content below
    → Underway keep (xs ++ x ∷ []) (rs ++ row ∷ []) first end ((blocks ++ content) ++ below) left
underway-more keep rest others left n xs rs first next end blocks content below x row behind number tail under planned =
    let start = under.at in
    let stop = planned.at in
    let one = length-append blocks content in
    let two = length-append (blocks ++ content) below in
    let nid_of = λ (r : Row). (r.nid).bits in
    let sub_of = λ (s : Sub). (s.nid).bits in
    let own_keep = first_list rest in
    let own_ids : List (Option Bid) = map Some (bids_in (placed next own_keep x.blocks)) in
    let here : first + 4 * length blocks ≡ next = sym start in
    let after : next + 4 * length content ≡ first + 4 * length (blocks ++ content) = omega arith in
    let rise_content : Rise (first + 4 * length blocks) content = subst (λ (n : ℕ). Rise n content) start planned.rise in
    let rise_below : Rise (first + 4 * length (blocks ++ content)) below = subst (λ (n : ℕ). Rise n below) after planned.plans.rise in
    let pairs : paired keep (flattened (xs ++ x ∷ [])) ≡ paired keep (flattened xs) ++ ((own_keep, x.blocks) ∷ paired others x.subs) =
    paired-more keep rest xs x under.rest_is ∙ ap (λ (k : Keep). paired keep (flattened xs) ++ ((own_keep, x.blocks) ∷ paired k x.subs)) (sym behind) in
    let unkepts : unkept_in keep (flattened (xs ++ x ∷ [])) ≡ unkept_in keep (flattened xs) ++ (unkept own_keep x.blocks ++ unkept_in others x.subs) =
    unkept-more keep rest xs x under.rest_is ∙ ap (λ (k : Keep). unkept_in keep (flattened xs) ++ (unkept own_keep x.blocks ++ unkept_in k x.subs)) (sym behind) in
    let kepts : kept_in keep (flattened (xs ++ x ∷ [])) ≡ kept_in keep (flattened xs) ++ (kept_bids own_keep x.blocks ++ kept_in others x.subs) =
    kept-more keep rest xs x under.rest_is ∙ ap (λ (k : Keep). kept_in keep (flattened xs) ++ (kept_bids own_keep x.blocks ++ kept_in k x.subs)) (sym behind) in
    record {
      rise = rise-append first (blocks ++ content) below (rise-append first blocks content under.rise rise_content) rise_below;
      at = omega arith;
      high = planned.high;
      rest_is = rest-more keep rest others left xs x n under.rest_is behind number tail;
      marks = plain-append (blocks ++ content) below ∙ ap (λ (l : List (List ℕ)). l ++ plain below) (plain-append blocks content)
          ∙ ap (λ (l : List (List ℕ)). (l ++ plain content) ++ plain below) under.marks ∙ ap (λ (l : List (List ℕ)). (unkept_in keep (flattened xs) ++ l) ++ plain below) planned.marks
          ∙ ap (λ (l : List (List ℕ)). (unkept_in keep (flattened xs) ++ unkept own_keep x.blocks) ++ l) planned.plans.marks
          ∙ append_assoc (unkept_in keep (flattened xs)) (unkept own_keep x.blocks) (unkept_in others x.subs) ∙ sym unkepts;
      nids = map-append nid_of rs (row ∷ []) ∙ ap (λ (l : List ℕ). l ++ (row.nid).bits ∷ []) under.nids ∙ ap (λ (n : ℕ). sub_nids xs ++ n ∷ []) planned.nid ∙ sym (map-append sub_of xs (x ∷ []));
      fits = each-append Fits rs (row ∷ []) under.fits (planned.fits, tt);
      small = each-append Small (blocks ++ content) below (each-append Small blocks content under.small (each-from_all Small content planned.small)) (each-from_all Small below planned.plans.small);
      most = let most_so_far = under.most in
          let most_here = planned.most in
          let most_below = planned.plans.most in
          let u = ap length unkepts ∙ length-append (unkept_in keep (flattened xs)) (unkept own_keep x.blocks ++ unkept_in others x.subs) in
          let v = length-append (unkept own_keep x.blocks) (unkept_in others x.subs) in
          let d = ap length (data-more xs x) ∙ length-append (data_in (flattened xs) ++ x.blocks) (data_in x.subs) in
          let e = length-append (data_in (flattened xs)) x.blocks in
          let size = ap length (flattened-more xs x) ∙ length-append (flattened xs) (own x ∷ map one_deeper x.subs) in
          let deep = length-map x.subs one_deeper in
          let wide = length-append xs (x ∷ []) in
          omega arith;
      room = let so_far = under.room in
          let room_below = planned.plans.room in
          let size = ap length (flattened-more xs x) ∙ length-append (flattened xs) (own x ∷ map one_deeper x.subs) in
          let deep = length-map x.subs one_deeper in
          let wide = length-append xs (x ∷ []) in
          let sum_one = bytes-more (blocks ++ content) below in
          let sum_two = bytes-more blocks content in
          omega (arith, so_far, room_below, size, deep, wide, sum_one, sum_two);
      ids = under.ids ++ (own_ids ∷ planned.plans.ids);
      placed = subst (λ (l : List Pair). ArePlaced first ((blocks ++ content) ++ below) l (under.ids ++ (own_ids ∷ planned.plans.ids))) (sym pairs)
          (placed-append first ((blocks ++ content) ++ below) (paired keep (flattened xs)) ((own_keep, x.blocks) ∷ paired others x.subs) under.ids (own_ids ∷ planned.plans.ids)
          (placed-front first (blocks ++ content) below (paired keep (flattened xs)) under.ids (placed-front first blocks content (paired keep (flattened xs)) under.ids under.placed)) (
            (placed-front first (blocks ++ content) below ((own_keep, x.blocks) ∷ []) (own_ids ∷ []) (
              (
                record {
                  before = blocks;
                  after = [];
                  first = next;
                  at = start;
                  parts = ap (λ (l : List (Bid × List ℕ)). blocks ++ l) (planned.laid ∙ sym (append-nil (fresh next own_keep x.blocks ++ above_kept next own_keep x.blocks)));
                },
                refl,
              ),
              tt,
            )).0,
            placed-behind first (next + 4 * length content) (blocks ++ content) below (paired others x.subs) planned.plans.ids after planned.plans.placed,
          ));
      names = λ find found deeper room level low levels few.
          let front = each-left (IsFound find) (blocks ++ content) below found in
          let old = each-left (IsFound find) blocks content front in
          let data_found = all_from-each (IsFound find) content (each-right (IsFound find) blocks content front) in
          let below_found = all_from-each (IsFound find) below (each-right (IsFound find) (blocks ++ content) below found) in
          let both_levels = subst (λ (l : List Flat). Each (λ f. f.level < suc deeper) l) (flattened-more xs x) levels in
          let old_levels = each-left (λ f. f.level < suc deeper) (flattened xs) (own x ∷ map one_deeper x.subs) both_levels in
          let new_levels = each-right (λ f. f.level < suc deeper) (flattened xs) (own x ∷ map one_deeper x.subs) both_levels in
          let inner_levels = all_from-each (λ f. f.level < deeper) x.subs (each-below (λ f. f.level < suc deeper) (λ f. f.level < deeper) (λ f low. omega arith) x.subs new_levels.1) in
          let size = ap length (flattened-more xs x) ∙ length-append (flattened xs) (own x ∷ map one_deeper x.subs) in
          let deep = length-map x.subs one_deeper in
          let all : length (flattened xs) + (1 + length x.subs) ≤ room = omega (arith, few, size, deep) in
          let count = placed-count first blocks keep (flattened xs) under.ids under.placed in
          ap (λ (l : List SubEntry). and_then (rows (branch (tree_from find deeper)) room l) (bids_each find)) (map-append (entry_as level) rs (row ∷ []))
          ∙ names-more find deeper room (length x.subs) (map (entry_as level) rs) (entry_as level row) (bids_in (placed next own_keep x.blocks)) under.ids planned.plans.ids
          (under.names find old deeper room level low old_levels (omega (arith, all))) (omega (arith, all, count)) (planned.names find data_found)
          (λ left more. planned.plans.names find below_found deeper left (omega (arith, low)) inner_levels more);
      reads = λ find found kept eof deeper room level low levels few small.
          let front = each-left (IsFound find) (blocks ++ content) below found in
          let old = each-left (IsFound find) blocks content front in
          let data_found = all_from-each (IsFound find) content (each-right (IsFound find) blocks content front) in
          let below_found = all_from-each (IsFound find) below (each-right (IsFound find) (blocks ++ content) below found) in
          let all_kept = subst (λ (l : List Pair). Each (PairFound find) l) pairs kept in
          let old_kept = each-left (PairFound find) (paired keep (flattened xs)) ((own_keep, x.blocks) ∷ paired others x.subs) all_kept in
          let new_kept = each-right (PairFound find) (paired keep (flattened xs)) ((own_keep, x.blocks) ∷ paired others x.subs) all_kept in
          let both_levels = subst (λ (l : List Flat). Each (λ f. f.level < suc deeper) l) (flattened-more xs x) levels in
          let old_levels = each-left (λ f. f.level < suc deeper) (flattened xs) (own x ∷ map one_deeper x.subs) both_levels in
          let new_levels = each-right (λ f. f.level < suc deeper) (flattened xs) (own x ∷ map one_deeper x.subs) both_levels in
          let inner_levels = all_from-each (λ f. f.level < deeper) x.subs (each-below (λ f. f.level < suc deeper) (λ f. f.level < deeper) (λ f low. omega arith) x.subs new_levels.1) in
          let both_small = subst (λ (l : List Flat). Each (λ f. bytes_in f.blocks ≤ eof) l) (flattened-more xs x) small in
          let old_small = each-left (λ f. bytes_in f.blocks ≤ eof) (flattened xs) (own x ∷ map one_deeper x.subs) both_small in
          let new_small = each-right (λ f. bytes_in f.blocks ≤ eof) (flattened xs) (own x ∷ map one_deeper x.subs) both_small in
          let inner_small = all_from-each (λ f. bytes_in f.blocks ≤ eof) x.subs (each-below (λ f. bytes_in f.blocks ≤ eof) (λ f. bytes_in f.blocks ≤ eof) (λ f fit. fit) x.subs new_small.1) in
          let size = ap length (flattened-more xs x) ∙ length-append (flattened xs) (own x ∷ map one_deeper x.subs) in
          let deep = length-map x.subs one_deeper in
          let all : length (flattened xs) + (1 + length x.subs) ≤ room = omega (arith, few, size, deep) in
          let left = room - length (flattened xs) in
          let here = branch-read find eof deeper left level x row planned.nid (omega (arith, all)) (planned.reads find data_found new_kept.0 eof new_small.0)
          (planned.plans.reads find below_found (all_from-each (PairFound find) (paired others x.subs) new_kept.1) eof deeper (left - 1) (omega (arith, low)) inner_levels (omega (arith, all)) inner_small) in
          ap (rows (branch_with find eof (subs_from find eof deeper)) room) (map-append (entry_as level) rs (row ∷ []))
          ∙ rows-last (branch_with find eof (subs_from find eof deeper)) room (map (entry_as level) rs) (entry_as level row) (flattened xs) (own x ∷ map one_deeper x.subs)
          (under.reads find old old_kept eof deeper room level low old_levels (omega (arith, all)) old_small) here
          ∙ ap Ok (sym (flattened-more xs x));
      keys = λ find found deeper low levels level key.
          let front = each-left (IsFound find) (blocks ++ content) below found in
          let old = each-left (IsFound find) blocks content front in
          let data_found = all_from-each (IsFound find) content (each-right (IsFound find) blocks content front) in
          let below_found = all_from-each (IsFound find) below (each-right (IsFound find) (blocks ++ content) below found) in
          let both_levels = subst (λ (l : List Flat). Each (λ f. f.level < suc deeper) l) (flattened-more xs x) levels in
          let old_levels = each-left (λ f. f.level < suc deeper) (flattened xs) (own x ∷ map one_deeper x.subs) both_levels in
          let new_levels = each-right (λ f. f.level < suc deeper) (flattened xs) (own x ∷ map one_deeper x.subs) both_levels in
          let inner_levels = all_from-each (λ f. f.level < deeper) x.subs (each-below (λ f. f.level < suc deeper) (λ f. f.level < deeper) (λ f low. omega arith) x.subs new_levels.1) in
          let f = reach_of find deeper in
          let so_far = under.keys find old deeper low old_levels level key in
          let rows_are = ap (λ (l : List SubEntry). count_of key (each_keys f l)) (map-append (entry_as level) rs (row ∷ [])) in
          let rows_more = count-each key f (map (entry_as level) rs) (entry_as level row) in
          let parts = count-append key (data_keys find row.content) (sub_keys_from find deeper row.subnodes) in
          let data_part = planned.reaches find data_found key in
          let data_sum = count-append key (keys_of (kept_bids own_keep x.blocks)) (keys_of (bids_in content)) in
          let below_part = planned.plans.keys find below_found deeper (omega (arith, low)) inner_levels key in
          let below_sum = count-append key (keys_of (kept_in others x.subs)) (keys_of (bids_in below)) in
          let kept_all = ap (λ (l : List Bid). count_of key (keys_of l)) kepts in
          let kept_one = count-bids key (kept_in keep (flattened xs)) (kept_bids own_keep x.blocks ++ kept_in others x.subs) in
          let kept_two = count-bids key (kept_bids own_keep x.blocks) (kept_in others x.subs) in
          let new_one = count-blocks key (blocks ++ content) below in
          let new_two = count-blocks key blocks content in
          omega (arith, so_far, rows_are, rows_more, parts, data_part, data_sum, below_part, below_sum, kept_all, kept_one, kept_two, new_one, new_two);
    }

pub underway-next : (keep rest others left : Keep) (n : ℕ) (xs : List Sub) (i : ℕ) (d x : Sub) (rs : List Row) (first next end : ℕ) (blocks content below : List (Bid × List ℕ)) (row : Row)
    → i < length xs → x ≡ get_or xs i d → others ≡ drop 1 rest → n ≡ length x.subs → left ≡ drop n others
    → Underway keep (take i xs) rs first next blocks rest → Planned (first_list rest) others x row next end content below
    → Underway keep (take (i + 1) xs) (rs ++ row ∷ []) first end ((blocks ++ content) ++ below) left
underway-next keep rest others left n xs i d x rs first next end blocks content below row h is behind number tail under planned =
    let e : take i xs ++ x ∷ [] ≡ take (i + 1) xs = ap (λ (y : Sub). take i xs ++ y ∷ []) is ∙ sym (take_more xs i d h) in
    subst (λ (ys : List Sub). Underway keep ys (rs ++ row ∷ []) first end ((blocks ++ content) ++ below) left) e
    (underway-more keep rest others left n (take i xs) rs first next end blocks content below x row behind number tail under planned)

-- the loop has come to its end
pub whole : (keep rest : Keep) (xs : List Sub) (i : ℕ) (rs : List Row) (first next : ℕ) (blocks : List (Bid × List ℕ)) → length xs ≤ i → Underway keep (take i xs) rs first next blocks rest
    → Underway keep xs rs first next blocks rest
whole keep rest xs i rs first next blocks h under = subst (λ (ys : List Sub). Underway keep ys rs first next blocks rest) (take_all i xs h) under

count-rows : (xs : List Sub) (rs : List Row) → row_nids rs ≡ sub_nids xs → length rs ≡ length xs
count-rows xs rs nids = sym (length-map rs (λ (r : Row). (r.nid).bits)) ∙ ap length nids ∙ length-map xs (λ (x : Sub). (x.nid).bits)

pub few-rows : (keep rest : Keep) (xs : List Sub) (rs : List Row) (first next : ℕ) (blocks : List (Bid × List ℕ)) → IsForm (flattened xs) → Underway keep xs rs first next blocks rest → length rs ≤ 173400
few-rows keep rest xs rs first next blocks form under =
    let count = count-rows xs rs under.nids in
    let few = (form-top xs form).1 in
    omega arith

sub-keys-none : (find : ℕ → Option (List ℕ)) (deeper : ℕ) (bid : Bid) → bid.bits ≡ 0 → sub_keys_from find deeper bid ≡ []
sub-keys-none find zero bid none = rw none refl
sub-keys-none find (suc deeper) bid none = rw none refl

sub-keys-some : (find : ℕ → Option (List ℕ)) (deeper : ℕ) (bid : Bid) (es : List SubEntry) → (bid.bits ≡ 0 → ⊥) → level_of find (8 - deeper) bid ≡ Ok es
    → sub_keys_from find (suc deeper) bid ≡ (key_of bid.bits ∷ listed_in (find (key_of bid.bits))) ++ each_keys (reach_of find deeper) es
sub-keys-some find deeper bid es some read =
    rw (ne_eqb bid.bits 0 some) (ap (λ (r : Result (List SubEntry) TreeStop). key_of bid.bits ∷ (listed_in (find (key_of bid.bits)) ++ each_keys (reach_of find deeper) (ok_entries r))) read)

-- the ids of the data under the root of a level
level-names : (find : ℕ → Option (List ℕ)) (deeper room : ℕ) (bid : Bid) (ids : Keep) (xs : List Sub) (rs : List Row) → length rs ≡ length xs → deeper ≤ 8
    → (length rs ≡ 0 → bid.bits ≡ 0) → (0 < length rs → bid.bits ≡ 0 → ⊥) → (0 < length rs → (level : ℕ) → level_of find level bid ≡ Ok (map (entry_as level) rs))
    → Each (λ f. f.level < deeper) (flattened xs)
    → ((deeper : ℕ) → deeper < 8 → Each (λ f. f.level < suc deeper) (flattened xs) → (level : ℕ) → and_then (rows (branch (tree_from find deeper)) room (map (entry_as level) rs)) (bids_each find) ≡ Ok ids)
    → and_then (tree_from find deeper room bid) (bids_each find) ≡ Ok ids
level-names find deeper room bid ids [] [] same shallow none some read levels names =
    ap (λ (r : Result (List SubEntry) TreeStop). and_then r (bids_each find)) (tree-none find deeper room bid (none refl)) ∙ names 0 (omega arith) tt 0
level-names find deeper room bid ids [] (row ∷ rs) same shallow none some read levels names = absurd (omega arith)
level-names find deeper room bid ids (x ∷ xs) [] same shallow none some read levels names = absurd (omega arith)
level-names find zero room bid ids (x ∷ xs) (row ∷ rs) same shallow none some read levels names = let low = levels.0 in absurd (omega arith)
level-names find (suc deeper) room bid ids (x ∷ xs) (row ∷ rs) same shallow none some read levels names =
    let es = map (entry_as (9 - suc deeper)) (row ∷ rs) in
    ap (λ (r : Result (List SubEntry) TreeStop). and_then r (bids_each find)) (tree-read find (suc deeper) room bid es (some (omega arith)) shallow (read (omega arith) (9 - suc deeper)))
    ∙ names deeper (omega arith) levels (9 - suc deeper)

-- the keys under the root of a level
level-keys : (find : ℕ → Option (List ℕ)) (key deeper kept new : ℕ) (bid : Bid) (xs : List Sub) (rs : List Row) (lists : List (Bid × List ℕ)) → length rs ≡ length xs → deeper ≤ 8
    → (length rs ≡ 0 → bid.bits ≡ 0) → (0 < length rs → bid.bits ≡ 0 → ⊥) → (0 < length rs → (level : ℕ) → level_of find level bid ≡ Ok (map (entry_as level) rs))
    → (length rs ≡ 0 → count_of key (keys_of (bids_in lists)) ≡ 0)
    → (0 < length rs → count_of key (key_of bid.bits ∷ listed_in (find (key_of bid.bits))) ≡ count_of key (keys_of (bids_in lists)))
    → Each (λ f. f.level < deeper) (flattened xs)
    → ((deeper : ℕ) → deeper < 8 → Each (λ f. f.level < suc deeper) (flattened xs) → (level : ℕ) → count_of key (each_keys (reach_of find deeper) (map (entry_as level) rs)) ≡ kept + new)
    → count_of key (sub_keys_from find deeper bid) ≡ kept + new + count_of key (keys_of (bids_in lists))
level-keys find key deeper kept new bid [] [] lists same shallow none some read no_lists own_keys levels rows_keys =
    let rows_count = rows_keys 0 (omega arith) tt 0 in
    let nothing_there = ap (count_of key) (sub-keys-none find deeper bid (none refl)) in
    let no_more = no_lists refl in
    omega (arith, rows_count, nothing_there, no_more)
level-keys find key deeper kept new bid [] (row ∷ rs) lists same shallow none some read no_lists own_keys levels rows_keys = absurd (omega arith)
level-keys find key deeper kept new bid (x ∷ xs) [] lists same shallow none some read no_lists own_keys levels rows_keys = absurd (omega arith)
level-keys find key zero kept new bid (x ∷ xs) (row ∷ rs) lists same shallow none some read no_lists own_keys levels rows_keys = let low = levels.0 in absurd (omega arith)
level-keys find key (suc deeper) kept new bid (x ∷ xs) (row ∷ rs) lists same shallow none some read no_lists own_keys levels rows_keys =
    let es = map (entry_as (8 - deeper)) (row ∷ rs) in
    let begin = key_of bid.bits ∷ listed_in (find (key_of bid.bits)) in
    let all = ap (count_of key) (sub-keys-some find deeper bid es (some (omega arith)) (read (omega arith) (8 - deeper))) in
    let both = count-append key begin (each_keys (reach_of find deeper) es) in
    let rows_count = rows_keys deeper (omega arith) levels (8 - deeper) in
    let lists_count = own_keys (omega arith) in
    omega (arith, all, both, rows_count, lists_count)

-- all are planned, and then the blocks that list them
pub underway-end : (keep rest : Keep) (xs : List Sub) (rs : List Row) (first next : ℕ) (bid : Bid) (blocks lists : List (Bid × List ℕ)) → 4 ≤ first → first % 4 ≡ 0 → IsForm (flattened xs)
    → Underway keep xs rs first next blocks rest → lists ≡ tables next rs → bid.bits ≡ last_id lists → Plans keep (flattened xs) first bid (blocks ++ lists)
underway-end keep rest xs rs first next bid blocks lists low apart form under made root =
    let at = under.at in
    let high = under.high in
    let top = form-top xs form in
    let few = top.1 in
    let count = count-rows xs rs under.nids in
    let rising : ascending (row_nids rs) ≡ true = ap ascending under.nids ∙ top.0 in
    let same : bid.bits ≡ last_id (tables next rs) = root ∙ ap last_id made in
    let few_lists = few-tables next rs (omega arith) in
    let fewer_lists = fewer-tables next rs in
    let size = ap length made in
    let end = last-high next (tables next rs) (rise-tables next rs) in
    let rise_lists : Rise (first + 4 * length blocks) lists = subst (λ (n : ℕ). Rise n lists) at (subst (λ (l : List (Bid × List ℕ)). Rise next l) (sym made) (rise-tables next rs)) in
    let small_lists : Each Small lists = subst (λ (l : List (Bid × List ℕ)). Each Small l) (sym made) (small-tables next rs (omega arith)) in
    let read_lists = λ (find : ℕ → Option (List ℕ)) (found : Each (IsFound find) lists) (some : 0 < length rs) (level : ℕ).
    ap (λ (n : ℕ). level_of find level (record { bits = n })) same
    ∙ tables-read find level next rs high some (omega arith) under.fits rising (subst (λ (l : List (Bid × List ℕ)). Each (IsFound find) l) made found) in
    record {
      rise = rise-append first blocks lists under.rise rise_lists;
      marks = plain-append blocks lists ∙ ap (λ (l : List (List ℕ)). l ++ plain lists) under.marks ∙ ap (λ (l : List (List ℕ)). unkept_in keep (flattened xs) ++ l) (ap plain made ∙ plain-tables next rs (omega arith))
          ∙ append-nil (unkept_in keep (flattened xs));
      within = omega arith;
      small = all_from-each Small (blocks ++ lists) (each-append Small blocks lists under.small small_lists);
      most = let most_so_far = under.most in
          let both = length-append blocks lists in
          omega arith;
      room = let so_far = under.room in
          let lists_room = room-tables next rs in
          let lists_are = ap (λ (l : List (Bid × List ℕ)). bytes_in (contents l)) made in
          let sum = bytes-more blocks lists in
          omega (arith, so_far, lists_room, lists_are, sum, count);
      ids = under.ids;
      placed = placed-front first blocks lists (paired keep (flattened xs)) under.ids under.placed;
      names = λ find found deeper room shallow levels fewer.
          let all = each-from_all (IsFound find) (blocks ++ lists) found in
          let own_blocks = each-left (IsFound find) blocks lists all in
          let list_blocks = each-right (IsFound find) blocks lists all in
          let inside = each-from_all (λ f. f.level < deeper) (flattened xs) levels in
          level-names find deeper room bid under.ids xs rs count shallow (λ none. same ∙ root-none next rs none) (λ some none. root-some next rs (omega arith) some (sym same ∙ none)) (read_lists find list_blocks) inside
          (λ deeper low levels level. under.names find own_blocks deeper room level low levels fewer);
      reads = λ find found kept eof deeper room shallow levels fewer small.
          let all = each-from_all (IsFound find) (blocks ++ lists) found in
          let own_blocks = each-left (IsFound find) blocks lists all in
          let list_blocks = each-right (IsFound find) blocks lists all in
          let own_kept = each-from_all (PairFound find) (paired keep (flattened xs)) kept in
          let inside = each-from_all (λ f. f.level < deeper) (flattened xs) levels in
          let fit = each-from_all (λ f. bytes_in f.blocks ≤ eof) (flattened xs) small in
          level-reads find eof deeper room bid xs rs count shallow (λ none. same ∙ root-none next rs none) (λ some none. root-some next rs (omega arith) some (sym same ∙ none)) (read_lists find list_blocks) inside
          (λ deeper low levels level. under.reads find own_blocks own_kept eof deeper room level low levels fewer fit);
      keys = λ find found deeper shallow levels key.
          let all = each-from_all (IsFound find) (blocks ++ lists) found in
          let own_blocks = each-left (IsFound find) blocks lists all in
          let list_blocks = each-right (IsFound find) blocks lists all in
          let tables_found : Each (IsFound find) (tables next rs) = subst (λ (l : List (Bid × List ℕ)). Each (IsFound find) l) made list_blocks in
          let kept_count = count_of key (keys_of (kept_in keep (flattened xs))) in
          let new_count = count_of key (keys_of (bids_in blocks)) in
          let made_keys = ap (λ (l : List (Bid × List ℕ)). count_of key (keys_of (bids_in l))) made in
          let sum = level-keys find key deeper kept_count new_count bid xs rs lists count shallow (λ none. same ∙ root-none next rs none) (λ some none. root-some next rs (omega arith) some (sym same ∙ none))
          (read_lists find list_blocks) (λ none. no-keys key lists (let shorter = fewer-tables next rs in omega arith))
          (λ some. tables-keys find key next bid.bits rs high some (omega arith) under.fits same tables_found ∙ sym made_keys) (each-from_all (λ f. f.level < deeper) (flattened xs) levels)
          (λ deeper low levels level. under.keys find own_blocks deeper low levels level key) in
          let both = count-append key (keys_of (kept_in keep (flattened xs))) (keys_of (bids_in (blocks ++ lists))) in
          let new_both = count-blocks key blocks lists in
          omega (arith, sum, both, new_both);
    }

-- the subnodes of a node
pub plans-kept : (keep : Keep) (flats : List Flat) (next : ℕ) (bid : Bid) (blocks : List (Bid × List ℕ)) → IsForm flats → Plans keep flats next bid blocks → SubsReadKept blocks keep bid flats
unfolding subs_of
plans-kept keep flats next bid blocks form plans = λ find found kept eof room small.
    plans.reads find found kept eof 8 (eof / 24) (omega arith) form.levels (omega arith) small

pub plans-among : (keep : Keep) (flats : List Flat) (next : ℕ) (bid : Bid) (blocks : List (Bid × List ℕ)) → Plans keep flats next bid blocks → AreAmong next blocks keep flats
plans-among keep flats next bid blocks plans = all_from-each (PairAmong next blocks) (paired keep flats) (placed-each next blocks (paired keep flats) plans.ids plans.placed)

pub plans-name : (keep : Keep) (flats : List Flat) (next : ℕ) (bid : Bid) (blocks : List (Bid × List ℕ)) → IsForm flats → Plans keep flats next bid blocks → SubsNameKept next blocks keep bid flats
unfolding sub_bids_of tree_of
plans-name keep flats next bid blocks form plans = record {
  ids = plans.ids;
  placed = plans.placed;
  named = λ find found eof room. plans.names find found 8 (eof / 24) (omega arith) form.levels (omega arith);
}

pub plans-reach : (keep : Keep) (flats : List Flat) (next : ℕ) (bid : Bid) (blocks : List (Bid × List ℕ)) → IsForm flats → Plans keep flats next bid blocks → SubsReach blocks (kept_in keep flats) bid
unfolding sub_keys
plans-reach keep flats next bid blocks form plans = λ find found. plans.keys find found 8 (omega arith) form.levels

nothing-found : (find : ℕ → Option (List ℕ)) (flats : List Flat) → Each (PairFound find) (paired [] flats)
nothing-found find [] = tt
nothing-found find (f ∷ flats) = (none f.blocks, nothing-found find flats)
  where
    none : (bs : List (List ℕ)) → AreFound find [] bs
    none [] = tt
    none (b ∷ bs) = tt

-- where nothing is kept
pub plans-read : (n : ℕ) (flats : List Flat) (next : ℕ) (bid : Bid) (blocks : List (Bid × List ℕ)) → IsForm flats → Plans (nothing n) flats next bid blocks → SubsReadAs blocks bid flats
plans-read n flats next bid blocks form plans = λ find found eof room small.
    let kept = subst (λ (l : List Pair). Each (PairFound find) l) (sym (nothing-paired n flats)) (nothing-found find flats) in
    plans-kept (nothing n) flats next bid blocks form plans find found (all_from-each (PairFound find) (paired (nothing n) flats) kept) eof room small
