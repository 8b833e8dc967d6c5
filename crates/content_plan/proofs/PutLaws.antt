-- One node that is put.
use Rattle.std.proofs.Common.{true, ◌≡◌, inl, inr, ℕ, ◌+◌, ◌*◌, ◌%◌, ◌≤◌, List, [], ◌∷◌, ◌++◌, length, drop, Option, Some, IsSome, Result, Ok, Err, IfOk, refl, sym, ap, subst, ◌∙◌, arith, length-append}
use Rattle.std.proofs.lemmas.Bool.{cases_lt}
use Rattle.pst_base.specs.declared.ids.Bid.{Bid}
use Rattle.pst_base.specs.declared.ids.Nid.{Nid}
use Rattle.pst_base.specs.Flat.{Flat}
use Rattle.btree_pages.specs.declared.entry.NodeEntry.{NodeEntry}
use Rattle.data_tree.specs.Keys.{count_of, data_keys, keys_of}
use Rattle.data_tree.specs.Plan.{AreFound, AreSmall, IsFound, NamesKept, Reaches, ReadsKept, Rise, above_kept, bids_in, bytes_in, contents, fresh, kept_bids, placed, unkept}
use Rattle.data_tree.proofs.KeepLaws.{few-unkept}
use Rattle.data_tree.proofs.KeyLaws.{count-append, count-blocks}
use Rattle.data_tree.proofs.PieceLaws.{Each, all_from-each, each-append, each-from_all, each-left, each-right}
use Rattle.data_tree.proofs.PlanLaws.{rise-append}
use Rattle.data_tree.proofs.SizeLaws.{Small}
use Rattle.node_layout.specs.Joined.{kept_keys}
use Rattle.node_layout.proofs.DataLaws.{node-leads}
use Rattle.node_port.specs.declared.node.NodeRec.{NodeRec}
use Rattle.node_port.specs.Stops.{subs_size}
use Rattle.node_reach.specs.Reach.{node_keys}
use Rattle.subnode_tree.specs.Keys.{sub_keys}
use Rattle.subnode_tree.specs.Plan.{AreAmong, SubsNameKept, SubsReach, SubsReadKept, data_in, first_list, kept_in, paired, unkept_in}
use Rattle.subnode_tree.proofs.PairLaws.{Keep, Pair, may-above}
use Rattle.subnode_tree.proofs.SubPlanLaws.{PairAmong, PairFound}
use Rattle.content_plan.specs.Keep.{Keeps, all_kept_keys, kept_list, kept_subs, subs_ascend}
use Rattle.content_plan.specs.Put.{EndsInSubs, PutsNode, PutsOver}
use Rattle.content_plan.specs.Told.{Content, IsOld}
use Rattle.content_plan.proofs.FitLaws.{all-fit, data-fits, kept-all, kept-subs, rise-once}
use Rattle.content_plan.proofs.KeepLaws.{PairKeeps, keeps-list, kept-found, kept-known, kept-still}
use Rattle.content_plan.proofs.PathLaws.{subs-found}

-- what was planned for the data and for the subnodes
pub record Parts (next after : ℕ) (node : NodeRec) (keep : List (Option Bid)) (sub_keep : Keep) (content subs : Bid) (front back : List (Bid × List ℕ)) : Type 0 where
  pub apart : next % 4 ≡ 0
  pub behind : after ≡ next + 4 * length front
  pub keeps : Keeps next keep node.blocks
  pub sub_keeps : Each (PairKeeps next) (paired sub_keep node.subs)
  pub long : length sub_keep ≡ length node.subs
  pub laid : front ≡ fresh next keep node.blocks ++ above_kept next keep node.blocks
  pub most : 2 * length front ≤ 2 * length (unkept keep node.blocks) + length node.blocks
  pub small : AreSmall front
  pub rise : Rise next front
  pub reads : ReadsKept front keep content node.blocks
  pub reaches : Reaches front (kept_bids keep node.blocks) content
  pub names : NamesKept front next keep content node.blocks
  pub sub_most : 2 * length back ≤ 2 * length (unkept_in sub_keep node.subs) + length (data_in node.subs) + 2 * length node.subs
  pub sub_small : AreSmall back
  pub sub_room : 24 * length node.subs ≤ bytes_in (contents back)
  pub sub_rise : Rise after back
  pub sub_among : AreAmong after back sub_keep node.subs
  pub sub_ids : SubsNameKept after back sub_keep subs node.subs
  pub sub_reads : SubsReadKept back sub_keep subs node.subs
  pub sub_reaches : SubsReach back (kept_in sub_keep node.subs) subs

-- ---- how many blocks

few-unkept_in : (keep : Keep) (flats : List Flat) → length (unkept_in keep flats) ≤ length (data_in flats)
few-unkept_in keep [] = omega arith
few-unkept_in keep (f ∷ flats) =
    let here = few-unkept (first_list keep) f.blocks in
    let rest = few-unkept_in (drop 1 keep) flats in
    let one = length-append (unkept (first_list keep) f.blocks) (unkept_in (drop 1 keep) flats) in
    let two = length-append f.blocks (data_in flats) in
    omega (arith, here, rest, one, two)

size-subs : (flats : List Flat) → subs_size flats ≡ length flats + length (data_in flats)
size-subs [] = refl
size-subs (f ∷ flats) =
    let rest = size-subs flats in
    let two = length-append f.blocks (data_in flats) in
    omega (arith, rest, two)

-- ---- all

pub parts-put : (next after : ℕ) (nid : Nid) (node : NodeRec) (keep : List (Option Bid)) (sub_keep : Keep) (content subs : Bid) (front back blocks : List (Bid × List ℕ)) (keys : List ℕ) → Parts next after node keep sub_keep content subs front back
    → blocks ≡ front ++ back → keys ≡ (kept_keys keep ++ all_kept_keys sub_keep) ++ keys_of (bids_in blocks)
    → PutsNode next nid node keep sub_keep (record { nid = nid; content = content; subnodes = subs; parent = node.parent }) blocks keys
unfolding node_keys
parts-put next after nid node keep sub_keep content subs front back blocks keys p joined reached =
    let entry : NodeEntry = record { nid = nid; content = content; subnodes = subs; parent = node.parent } in
    let sum : (key : ℕ) → count_of key keys ≡ count_of key (kept_keys keep) + (count_of key (all_kept_keys sub_keep) + count_of key (keys_of (bids_in blocks))) = λ key.
    let e = ap (count_of key) reached in
    let one = count-append key (kept_keys keep ++ all_kept_keys sub_keep) (keys_of (bids_in blocks)) in
    let two = count-append key (kept_keys keep) (all_kept_keys sub_keep) in
    omega (arith, e, one, two) in
    let behind = p.behind in
    let apart = p.apart in
    record {
      own = refl;
      rise = subst (λ (l : List (Bid × List ℕ)). Rise next l) (sym joined) (rise-append next front back p.rise (subst (λ (n : ℕ). Rise n back) behind p.sub_rise));
      small = subst (λ (l : List (Bid × List ℕ)). AreSmall l) (sym joined) (all_from-each Small (front ++ back) (each-append Small front back (each-from_all Small front p.small) (each-from_all Small back p.sub_small)));
      most = let a = p.most in
          let b = p.sub_most in
          let c = few-unkept keep node.blocks in
          let d = few-unkept_in sub_keep node.subs in
          let e = size-subs node.subs in
          let f = ap length joined ∙ length-append front back in
          omega (arith, a, b, c, d, e, f);
      counted = sum;
      leads = λ find eof found kept sub_kept bounds.
          let all : Each (IsFound find) (front ++ back) = subst (λ (l : List (Bid × List ℕ)). Each (IsFound find) l) joined (each-from_all (IsFound find) blocks found) in
          let front_found = each-left (IsFound find) front back all in
          let back_found = each-right (IsFound find) front back all in
          let laid : Each (IsFound find) (fresh next keep node.blocks ++ above_kept next keep node.blocks) = subst (λ (l : List (Bid × List ℕ)). Each (IsFound find) l) p.laid front_found in
          let new = each-left (IsFound find) (fresh next keep node.blocks) (above_kept next keep node.blocks) laid in
          let fits = data-fits find eof next next keep node.blocks apart (omega arith) p.keeps new kept bounds in
          let room = bounds back (all_from-each (IsFound find) back back_found) (λ key. rise-once key after back (omega (arith, behind, apart)) p.sub_rise) in
          let each = all-fit find eof next after back sub_keep node.subs (omega (arith, behind)) (omega (arith, behind, apart)) back_found bounds (each-from_all (PairAmong after back) (paired sub_keep node.subs) p.sub_among) p.sub_keeps
          (each-from_all (PairFound find) (paired sub_keep node.subs) sub_kept) in
          let sub_room = p.sub_room in
          node-leads find eof entry node (p.reads find (all_from-each (IsFound find) front front_found) kept eof fits)
          (p.sub_reads find (all_from-each (IsFound find) back back_found) sub_kept eof (omega (arith, room, sub_room)) (all_from-each (λ (f : Flat). bytes_in f.blocks ≤ eof) node.subs each)) refl;
      reaches = λ find found key.
          let all : Each (IsFound find) (front ++ back) = subst (λ (l : List (Bid × List ℕ)). Each (IsFound find) l) joined (each-from_all (IsFound find) blocks found) in
          let one = p.reaches find (all_from-each (IsFound find) front (each-left (IsFound find) front back all)) key in
          let two = p.sub_reaches find (all_from-each (IsFound find) back (each-right (IsFound find) front back all)) key in
          let a = count-append key (data_keys find content) (sub_keys find subs) in
          let b = count-append key (keys_of (kept_bids keep node.blocks)) (keys_of (bids_in front)) in
          let c = count-append key (keys_of (kept_in sub_keep node.subs)) (keys_of (bids_in back)) in
          let d = ap (count_of key) (kept-all keep node.blocks (p.keeps).short) in
          let e = kept-subs key next sub_keep node.subs p.long p.sub_keeps in
          let f = count-blocks key front back in
          let g = ap (λ (l : List (Bid × List ℕ)). count_of key (keys_of (bids_in l))) joined in
          let h = sum key in
          omega (arith, one, two, a, b, c, d, e, f, g, h);
      names = λ find found.
          let all : Each (IsFound find) (front ++ back) = subst (λ (l : List (Bid × List ℕ)). Each (IsFound find) l) joined (each-from_all (IsFound find) blocks found) in
          p.names find (all_from-each (IsFound find) front (each-left (IsFound find) front back all));
      subs = record {
        front = front;
        back = back;
        parts = joined;
        holds = record {
          rise = subst (λ (n : ℕ). Rise n back) behind p.sub_rise;
          laid = subst (λ (n : ℕ). AreAmong n back sub_keep node.subs) behind p.sub_among;
          ids = subst (λ (n : ℕ). SubsNameKept n back sub_keep subs node.subs) behind p.sub_ids;
          reads = p.sub_reads;
          reaches = λ find found key.
              let one = p.sub_reaches find found key in
              let a = count-append key (keys_of (kept_in sub_keep node.subs)) (keys_of (bids_in back)) in
              let b = count-append key (all_kept_keys sub_keep) (keys_of (bids_in back)) in
              let c = kept-subs key next sub_keep node.subs p.long p.sub_keeps in
              omega (arith, one, a, b, c);
        };
      };
    }

-- ---- over what was there

sub-known : (find : ℕ → Option (List ℕ)) (next key : ℕ) (keep : Keep) (flats : List Flat) → length keep ≡ length flats → Each (PairKeeps next) (paired keep flats) → Each (PairFound find) (paired keep flats) → 1 ≤ count_of key (all_kept_keys keep) → IsSome (find key)
sub-known find next key [] flats same keeps found some = absurd (omega (arith, some))
sub-known find next key (own ∷ keep) [] same keeps found some = absurd (omega (arith, same))
sub-known find next key (own ∷ keep) (f ∷ flats) same keeps found some =
    let sum = count-append key (kept_keys own) (all_kept_keys keep) in
    elim (cases_lt 0 (count_of key (kept_keys own))) [
      | inl here ↦ kept-known find own f.blocks key (keeps.0).short found.0 (omega (arith, here))
      | inr none ↦ sub-known find next key keep flats (omega (arith, same)) keeps.1 found.1 (omega (arith, some, sum, none))
    ]

sub-still : (find after : ℕ → Option (List ℕ)) (keep : Keep) (flats : List Flat) → length keep ≡ length flats → ((key : ℕ) (b : List ℕ) → 1 ≤ count_of key (all_kept_keys keep) → find key ≡ Some b → after key ≡ Some b)
    → Each (PairFound find) (paired keep flats) → Each (PairFound after) (paired keep flats)
sub-still find after [] [] same still found = tt
sub-still find after [] (f ∷ flats) same still found = absurd (omega (arith, same))
sub-still find after (own ∷ keep) [] same still found = tt
sub-still find after (own ∷ keep) (f ∷ flats) same still found = (
  kept-still find after own f.blocks (λ key b some is. still key b (let sum = count-append key (kept_keys own) (all_kept_keys keep) in omega (arith, some, sum)) is) found.0,
  sub-still find after keep flats (omega (arith, same)) (λ key b some is. still key b (let sum = count-append key (kept_keys own) (all_kept_keys keep) in omega (arith, some, sum)) is) found.1,
)

pub put-over : (limit next : ℕ) (nid : Nid) (node : NodeRec) (old : Content) (keep : List (Option Bid)) (sub_keep : Keep) (entry : NodeEntry) (blocks : List (Bid × List ℕ)) (keys : List ℕ)
    → keep ≡ kept_list limit old.ids old.blocks node.blocks → length sub_keep ≡ length node.subs → Each (PairKeeps limit) (paired sub_keep node.subs) → (subs_ascend old.subs ≡ true → sub_keep ≡ kept_subs limit old.sub_ids old.subs node.subs)
    → PutsNode next nid node keep sub_keep entry blocks keys → PutsOver limit next nid node old entry blocks keys
put-over limit next nid node old keep sub_keep entry blocks keys is same sub_keeps exact p =
    let pairs = paired sub_keep node.subs in
    let keeps : Keeps limit keep node.blocks = subst (λ (k : List (Option Bid)). Keeps limit k node.blocks) (sym is) (keeps-list limit old.ids old.blocks node.blocks) in
    let own_found : (find : ℕ → Option (List ℕ)) → IsOld find old → AreFound find keep node.blocks = λ find there.
    subst (λ (k : List (Option Bid)). AreFound find k node.blocks) (sym is) (kept-found find limit [] old.ids old.blocks node.blocks there.data_found) in
    let sub_found : (find : ℕ → Option (List ℕ)) → IsOld find old → Each (PairFound find) pairs = λ find there.
    subst (λ (k : Keep). Each (PairFound find) (paired k node.subs)) (sym (exact there.subs_rise)) (subs-found find limit old.sub_ids old.subs node.subs (each-from_all (PairFound find) (paired old.sub_ids old.subs) there.subs_found)) in
    record {
      own = p.own;
      rise = p.rise;
      small = p.small;
      most = p.most;
      known = λ find there key some.
          let sum = p.counted key in
          elim (cases_lt 0 (count_of key (kept_keys keep))) [
            | inl here ↦ inl (kept-known find keep node.blocks key keeps.short (own_found find there) (omega (arith, here)))
            | inr none ↦ elim (cases_lt 0 (count_of key (all_kept_keys sub_keep))) [
              | inl here ↦ inl (sub-known find limit key sub_keep node.subs same sub_keeps (sub_found find there) (omega (arith, here)))
              | inr nothing ↦ inr (omega (arith, some, sum, none, nothing))
            ]
          ];
      fresh = λ key some. let sum = p.counted key in omega (arith, some, sum);
      leads = λ find after eof there found still bounds.
          p.leads after eof found (kept-still find after keep node.blocks (λ key b some is_there. still key b (let sum = p.counted key in omega (arith, sum, some)) is_there) (own_found find there))
          (all_from-each (PairFound after) pairs (sub-still find after sub_keep node.subs same (λ key b some is_there. still key b (let sum = p.counted key in omega (arith, sum, some)) is_there) (sub_found find there))) bounds;
      reaches = p.reaches;
      names = λ after found. p.names after found ∙ ap (λ (k : List (Option Bid)). Ok (bids_in (placed next k node.blocks))) is;
      subs = λ find there. subst (λ (k : Keep). EndsInSubs next k node.subs entry.subnodes blocks) (exact there.subs_rise) p.subs;
    }

-- what holds of an answer, from what holds of it
pub ok-map : {A E : Type 0} (P Q : A → Type 0) → ((a : A) → P a → Q a) → (r : Result A E) → IfOk r P → IfOk r Q
ok-map P Q into (Ok a) p = into a p
ok-map P Q into (Err e) p = tt

keeps-raise : (limit next : ℕ) (pair : Pair) → limit ≤ next → PairKeeps limit pair → PairKeeps next pair
keeps-raise limit next pair le k = record { may = may-above limit next pair.0 le k.may; once = k.once; short = k.short }

pub own-raise : (limit next : ℕ) (keep : List (Option Bid)) (bs : List (List ℕ)) → limit ≤ next → Keeps limit keep bs → Keeps next keep bs
own-raise limit next keep bs le k = keeps-raise limit next (keep, bs) le k

pub all-raise : (limit next : ℕ) (pairs : List Pair) → limit ≤ next → Each (PairKeeps limit) pairs → Each (PairKeeps next) pairs
all-raise limit next [] le all = tt
all-raise limit next (pair ∷ pairs) le all = (keeps-raise limit next pair le all.0, all-raise limit next pairs le all.1)
