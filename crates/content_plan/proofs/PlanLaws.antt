-- Plans of changes, one after the other.
use Rattle.std.proofs.Common.{true, ◌≡◌, inl, inr, ◌∙◌, ℕ, ◌+◌, ◌*◌, ◌^◌, ◌<◌, ◌≤◌, leb, get_or, if◌then◌else◌, List, [], ◌∷◌, ◌++◌, length, map, drop, take, Option, Some, None, Ok, refl, sym, ap, subst, arith, length-append}
use Rattle.std.specs.List.{All}
use Rattle.std.proofs.lemmas.Bool.{and_parts, cases_eq, cases_lt, eq-eqb, ne_eqb, leb-true}
use Rattle.std.proofs.lemmas.List.{take_all, take_more}
use Rattle.pst_base.specs.declared.ids.Bid.{Bid}
use Rattle.pst_base.specs.declared.ids.Nid.{Nid}
use Rattle.btree_pages.specs.declared.entry.NodeEntry.{NodeEntry}
use Rattle.data_tree.specs.Keys.{count_of, keys_of}
use Rattle.data_tree.specs.Plan.{IsFound, Rise, bids_in, placed}
use Rattle.data_tree.specs.Tree.{bids_of}
use Rattle.data_tree.proofs.KeyLaws.{count-append, count-blocks}
use Rattle.data_tree.proofs.ListingLaws.{drop-here}
use Rattle.data_tree.proofs.PieceLaws.{Each, all_from-each, each-append, each-from_all, each-left, each-right}
use Rattle.data_tree.proofs.PlanLaws.{rise-append}
use Rattle.data_tree.proofs.SizeLaws.{Small}
use Rattle.node_layout.specs.Joined.{AreChanged, node_id}
use Rattle.node_layout.specs.Lookups.{edit_at}
use Rattle.node_layout.proofs.LookupLaws.{edits-none}
use Rattle.node_port.specs.declared.node.NodeRec.{NodeRec}
use Rattle.node_port.specs.Nodes.{ascend}
use Rattle.node_port.specs.Stops.{size}
use Rattle.node_layout.specs.Counts as refs
use Rattle.node_layout.specs.Counts.{is_edit, sum_put, uses}
use Rattle.tree_edit.specs.Edits.{AreEdits, entry_with}
use Rattle.tree_edit.specs.Shapes.{RiseIn}
use Rattle.content_plan.specs.Keep.{kept_list, kept_subs}
use Rattle.content_plan.specs.Plan.{AreNamed, IsCounted, NamesOver, PlansContents, StayFound}
use Rattle.content_plan.specs.Put.{EndsInSubs, PutsOver}
use Rattle.content_plan.specs.Told.{Content, IsOld, keys_at, content_at}

abbrev pub Edits : Type 0
Edits = List (ℕ × Option NodeEntry)

abbrev pub Changes : Type 0
Changes = List (Nid × Option NodeRec)

-- ---- edits in two parts

pub edits-append : (low mid high : ℕ) (xs ys : Edits) → low ≤ mid → mid ≤ high → AreEdits node_id low mid xs → AreEdits node_id mid high ys → AreEdits node_id low high (xs ++ ys)
edits-append low mid high [] ys a b first later = lower low mid high ys a later
  where
    lower : (low mid high : ℕ) (ys : Edits) → low ≤ mid → AreEdits node_id mid high ys → AreEdits node_id low high ys
    lower low mid high [] a e = tt
    lower low mid high (y ∷ ys) a e = let m = e.0 in (omega (arith, a, m), e.1, e.2, e.3)
edits-append low mid high (x ∷ xs) ys a b first later =
    let l = first.0 in
    let h = first.1 in
    (l, omega (arith, h, b), first.2, edits-append (x.0 + 1) mid high xs ys (omega (arith, h)) b first.3 later)

pub edits-raise : (low high more : ℕ) (xs : Edits) → high ≤ more → AreEdits node_id low high xs → AreEdits node_id low more xs
edits-raise low high more [] le e = tt
edits-raise low high more (x ∷ xs) le e = let h = e.1 in (e.0, omega (arith, h, le), e.2, edits-raise (x.0 + 1) high more xs le e.3)

-- an entry has an edit in one part at most
edited-parts : (low mid high k : ℕ) (xs ys : Edits) (n : ℕ) → AreEdits node_id low mid xs → AreEdits node_id mid high ys
    → (if is_edit (edit_at k (xs ++ ys)) then n else 0) ≡ (if is_edit (edit_at k xs) then n else 0) + (if is_edit (edit_at k ys) then n else 0)
edited-parts low mid high k [] ys n first later = omega arith
edited-parts low mid high k (x ∷ xs) ys n first later = elim (cases_eq x.0 k) [
  | inl same ↦
      let h = first.1 in
      let none : edit_at k ys ≡ None = edits-none node_id mid high k ys (omega (arith, h, same)) later in
      rw (eq-eqb x.0 k same, none) (omega arith)
  | inr other ↦ rw (ne_eqb x.0 k other) (edited-parts (x.0 + 1) mid high k xs ys n first.3 later)
]

taken-append : (find : ℕ → Option (List ℕ)) (key low mid high : ℕ) (xs ys : Edits) (es : List NodeEntry) → AreEdits node_id low mid xs → AreEdits node_id mid high ys
    → refs.taken find es (xs ++ ys) key ≡ refs.taken find es xs key + refs.taken find es ys key
taken-append find key low mid high xs ys [] first later = refl
taken-append find key low mid high xs ys (e ∷ es) first later =
    let here = edited-parts low mid high (node_id e) xs ys (uses find key e) first later in
    let rest = taken-append find key low mid high xs ys es first later in
    omega (arith, here, rest)

put-append : (f : NodeEntry → ℕ) (xs ys : Edits) → sum_put f (xs ++ ys) ≡ sum_put f xs + sum_put f ys
put-append f [] ys = omega arith
put-append f (x ∷ xs) ys = let rest = put-append f xs ys in omega (arith, rest)

changed-append : (find : ℕ → Option (List ℕ)) (eof : ℕ) (es : List NodeEntry) (xs ys : Edits) (cs ds : Changes) → AreChanged find eof es xs cs → AreChanged find eof es ys ds → AreChanged find eof es (xs ++ ys) (cs ++ ds)
changed-append find eof es xs ys [] ds none later = subst (λ (l : Edits). AreChanged find eof es (l ++ ys) ds) (sym none) later
changed-append find eof es xs ys (c ∷ cs) ds (inl one) later =
    inl (one.0, one.1 ++ ys, ap (λ (l : Edits). l ++ ys) one.2, one.3, one.4, changed-append find eof es one.1 ys cs ds one.5 later)
changed-append find eof es xs ys (c ∷ cs) ds (inr skip) later = inr (skip.0, skip.1, changed-append find eof es xs ys cs ds skip.2 later)

named-append : (find after : ℕ → Option (List ℕ)) (eof limit : ℕ) (es : List NodeEntry) (xs ys : Edits) (cs ds : Changes) → AreNamed find after eof limit es xs cs → AreNamed find after eof limit es ys ds → AreNamed find after eof limit es (xs ++ ys) (cs ++ ds)
named-append find after eof limit es xs ys [] ds none later = subst (λ (l : Edits). AreNamed find after eof limit es (l ++ ys) ds) (sym none) later
named-append find after eof limit es xs ys (c ∷ cs) ds (inl one) later =
    inl (one.0, one.1 ++ ys, ap (λ (l : Edits). l ++ ys) one.2, one.3, one.4, named-append find after eof limit es one.1 ys cs ds one.5 later)
named-append find after eof limit es xs ys (c ∷ cs) ds (inr skip) later = inr (skip.0, named-append find after eof limit es xs ys cs ds skip.1 later)

size-append : (cs ds : Changes) → size (cs ++ ds) ≡ size cs + size ds
size-append [] ds = omega arith
size-append ((nid, None) ∷ cs) ds = size-append cs ds
size-append ((nid, Some node) ∷ cs) ds = let rest = size-append cs ds in omega (arith, rest)

-- ---- one plan and then another

pub counted-append : (next after low mid high : ℕ) (cs ds : Changes) (xs ys : Edits) (front back : List (Bid × List ℕ)) → after ≡ next + 4 * length front → low ≤ mid → mid ≤ high
    → IsCounted next low mid cs xs front → IsCounted after mid high ds ys back → IsCounted next low high (cs ++ ds) (xs ++ ys) (front ++ back)
counted-append next after low mid high cs ds xs ys front back behind a b first later = record {
  rise = rise-append next front back first.rise (subst (λ (n : ℕ). Rise n back) behind later.rise);
  small = all_from-each Small (front ++ back) (each-append Small front back (each-from_all Small front first.small) (each-from_all Small back later.small));
  most = let m = first.most in
      let n = later.most in
      let s = size-append cs ds in
      let l = length-append front back in
      let p = put-append (λ e. 1) xs ys in
      omega (arith, m, n, s, l, p);
  edits_rise = edits-append low mid high xs ys a b first.edits_rise later.edits_rise;
}

still-front : (find after : ℕ → Option (List ℕ)) (xs ys : List ℕ) → StayFound find after (xs ++ ys) → StayFound find after xs
still-front find after xs ys still key b some is = still key b (let sum = count-append key xs ys in omega (arith, some, sum)) is

still-back : (find after : ℕ → Option (List ℕ)) (xs ys : List ℕ) → StayFound find after (xs ++ ys) → StayFound find after ys
still-back find after xs ys still key b some is = still key b (let sum = count-append key xs ys in omega (arith, some, sum)) is

pub plans-append : (find : ℕ → Option (List ℕ)) (eof limit : ℕ) (es : List NodeEntry) (low mid high : ℕ) (cs ds : Changes) (xs ys : Edits) (front back : List (Bid × List ℕ)) (taken others put with_more : List ℕ) → AreEdits node_id low mid xs → AreEdits node_id mid high ys
    → PlansContents find eof limit es cs xs front taken put → PlansContents find eof limit es ds ys back others with_more → PlansContents find eof limit es (cs ++ ds) (xs ++ ys) (front ++ back) (taken ++ others) (put ++ with_more)
plans-append find eof limit es low mid high cs ds xs ys front back taken others put with_more a b first later = record {
  taken_are = λ key.
      let sum = count-append key taken others in
      let one = first.taken_are key in
      let two = later.taken_are key in
      let both = taken-append find key low mid high xs ys es a b in
      omega (arith, sum, one, two, both);
  known = λ key some.
      let sum = count-append key put with_more in
      let blocks = count-blocks key front back in
      elim (cases_lt 0 (count_of key put)) [
        | inl here ↦ elim (first.known key (omega (arith, here))) [ inl old ↦ inl old | inr new ↦ inr (omega (arith, new, blocks)) ]
        | inr none ↦ elim (later.known key (omega (arith, some, sum, none))) [ inl old ↦ inl old | inr new ↦ inr (omega (arith, new, blocks)) ]
      ];
  fresh = λ key some.
      let sum = count-append key put with_more in
      let blocks = count-blocks key front back in
      elim (cases_lt 0 (count_of key (keys_of (bids_in front)))) [
        | inl here ↦ let own = first.fresh key (omega (arith, here)) in omega (arith, own, sum)
        | inr none ↦ let own = later.fresh key (omega (arith, some, blocks, none)) in omega (arith, own, sum)
      ];
  shows = λ after more found still bounds.
      let all = each-from_all (IsFound after) (front ++ back) found in
      let one = first.shows after more (all_from-each (IsFound after) front (each-left (IsFound after) front back all)) (still-front find after put with_more still) bounds in
      let two = later.shows after more (all_from-each (IsFound after) back (each-right (IsFound after) front back all)) (still-back find after put with_more still) bounds in (
        changed-append after more es xs ys cs ds one.0 two.0,
        (λ key.
            let sum = count-append key put with_more in
            let c = one.1 key in
            let d = two.1 key in
            let both = put-append (uses after key) xs ys in
            omega (arith, sum, c, d, both)),
      );
  names = λ after found.
      let all = each-from_all (IsFound after) (front ++ back) found in
      named-append find after eof limit es xs ys cs ds (first.names after (all_from-each (IsFound after) front (each-left (IsFound after) front back all))) (later.names after (all_from-each (IsFound after) back (each-right (IsFound after) front back all)));
}

-- ---- no changes

pub counted-none : (next low : ℕ) → IsCounted next low low [] [] []
counted-none next low = record { rise = tt; small = all_from-each Small [] tt; most = omega arith; edits_rise = tt }

taken-none : (find : ℕ → Option (List ℕ)) (key : ℕ) (es : List NodeEntry) → refs.taken find es [] key ≡ 0
taken-none find key [] = refl
taken-none find key (e ∷ es) = let rest = taken-none find key es in omega (arith, rest)

pub plans-none : (find : ℕ → Option (List ℕ)) (eof limit : ℕ) (es : List NodeEntry) → PlansContents find eof limit es [] [] [] [] []
plans-none find eof limit es = record {
  taken_are = λ key. let e = taken-none find key es in omega (arith, e);
  known = λ key some. absurd (omega (arith, some));
  fresh = λ key some. absurd (omega (arith, some));
  shows = λ after more found still bounds. (refl, λ key. refl);
  names = λ after found. refl;
}

-- ---- one change

keys-none : (find : ℕ → Option (List ℕ)) (key k : ℕ) (o : Option NodeEntry) (low high : ℕ) (es : List NodeEntry) → RiseIn low high (map node_id es) → k < low → refs.taken find es ((k, o) ∷ []) key ≡ 0
keys-none find key k o low high [] rise less = refl
keys-none find key k o low high (e ∷ es) rise less =
    let a = rise.0 in
    let rest = keys-none find key k o (node_id e + 1) high es rise.2 (omega (arith, less, a)) in
    rw (ne_eqb k (node_id e) (λ s. absurd (omega (arith, s, a, less)))) (omega (arith, rest))

-- the keys that the entry with an edit reaches
pub taken-one : (find : ℕ → Option (List ℕ)) (key k : ℕ) (o : Option NodeEntry) (low high : ℕ) (es : List NodeEntry) → RiseIn low high (map node_id es) → refs.taken find es ((k, o) ∷ []) key ≡ count_of key (keys_at find (entry_with node_id k es))
taken-one find key k o low high [] rise = refl
taken-one find key k o low high (e ∷ es) rise = elim (cases_eq k (node_id e)) [
  | inl same ↦
      let rest = keys-none find key k o (node_id e + 1) high es rise.2 (omega (arith, same)) in
      rw (eq-eqb k (node_id e) same, eq-eqb (node_id e) k (sym same)) (omega (arith, rest))
  | inr other ↦
      let rest = taken-one find key k o (node_id e + 1) high es rise.2 in
      rw (ne_eqb k (node_id e) other, ne_eqb (node_id e) k (λ s. other (sym s))) (omega (arith, rest))
]

-- a node that goes
pub removed-plans : (find : ℕ → Option (List ℕ)) (eof limit : ℕ) (es : List NodeEntry) (nid : Nid) (entry : Option NodeEntry) (keys : List ℕ) → RiseIn 0 (2 ^ 64) (map node_id es) → entry_with node_id nid.bits es ≡ entry → keys ≡ keys_at find entry
    → PlansContents find eof limit es ((nid, None) ∷ []) ((nid.bits, None) ∷ []) [] keys []
removed-plans find eof limit es nid entry keys rise there are = record {
  taken_are = λ key. ap (count_of key) (are ∙ ap (keys_at find) (sym there)) ∙ sym (taken-one find key nid.bits None 0 (2 ^ 64) es rise);
  known = λ key some. absurd (omega (arith, some));
  fresh = λ key some. absurd (omega (arith, some));
  shows = λ after more found still bounds. (inl ((nid.bits, None), [], refl, refl, refl, refl), λ key. refl);
  names = λ after found. inl ((nid.bits, None), [], refl, refl, tt, refl);
}

-- a node that goes and isn't there
pub gone-plans : (find : ℕ → Option (List ℕ)) (eof limit : ℕ) (es : List NodeEntry) (nid : Nid) (keys : List ℕ) → entry_with node_id nid.bits es ≡ None → keys ≡ [] → PlansContents find eof limit es ((nid, None) ∷ []) [] [] keys []
gone-plans find eof limit es nid keys there are = record {
  taken_are = λ key. ap (count_of key) are ∙ sym (taken-none find key es);
  known = λ key some. absurd (omega (arith, some));
  fresh = λ key some. absurd (omega (arith, some));
  shows = λ after more found still bounds. (inr (refl, there, refl), λ key. refl);
  names = λ after found. inr (refl, refl);
}

-- the blocks of a node that is put
names-over : (after : ℕ → Option (List ℕ)) (limit next : ℕ) (nid : Nid) (node : NodeRec) (old was : Content) (entry : NodeEntry) (blocks : List (Bid × List ℕ)) → old ≡ was → limit ≤ next → All (IsFound after) blocks
    → bids_of after entry.content ≡ Ok (bids_in (placed next (kept_list limit old.ids old.blocks node.blocks) node.blocks)) → EndsInSubs next (kept_subs limit old.sub_ids old.subs node.subs) node.subs entry.subnodes blocks → NamesOver after limit was entry node
names-over after limit next nid node old was entry blocks exact behind found named ends = subst (λ (c : Content). NamesOver after limit c entry node) exact (record {
  next = next;
  behind = behind;
  own = named;
  sub_next = next + 4 * length ends.front;
  sub_behind = omega (arith, behind);
  new = ends.back;
  found = all_from-each (IsFound after) ends.back (each-right (IsFound after) ends.front ends.back (subst (λ (l : List (Bid × List ℕ)). Each (IsFound after) l) ends.parts (each-from_all (IsFound after) blocks found)));
  subs = ends.holds;
})

-- a node that is put
pub put-plans : (find : ℕ → Option (List ℕ)) (eof limit : ℕ) (es : List NodeEntry) (next : ℕ) (nid : Nid) (node : NodeRec) (old : Content) (entry : NodeEntry) (blocks : List (Bid × List ℕ)) (taken keys : List ℕ) → RiseIn 0 (2 ^ 64) (map node_id es)
    → taken ≡ keys_at find (entry_with node_id nid.bits es) → IsOld find old → old ≡ content_at find eof (entry_with node_id nid.bits es) → limit ≤ next → PutsOver limit next nid node old entry blocks keys → PlansContents find eof limit es ((nid, Some node) ∷ []) ((nid.bits, Some entry) ∷ []) blocks taken keys
put-plans find eof limit es next nid node old entry blocks taken keys rise are there exact behind p = record {
  taken_are = λ key. ap (count_of key) are ∙ sym (taken-one find key nid.bits (Some entry) 0 (2 ^ 64) es rise);
  known = p.known find there;
  fresh = p.fresh;
  shows = λ after more found still bounds. (
    inl ((nid.bits, Some entry), [], refl, refl, p.leads find after more there found still bounds, refl),
    (λ key. let same = p.reaches after found key in omega (arith, same)),
  );
  names = λ after found. inl (
    (nid.bits, Some entry),
    [],
    refl,
    refl,
    names-over after limit next nid node old (content_at find eof (entry_with node_id nid.bits es)) entry blocks exact behind found (p.names after found) (p.subs find there),
    refl,
  );
}

-- ---- the front of the changes

-- what the front of the changes comes to, whatever the file is: the others' ids are at least a number
pub record Front (next free : ℕ) (changes : Changes) (i : ℕ) (edits : Edits) (blocks : List (Bid × List ℕ)) : Type 0 where
  pub at : free ≡ next + 4 * length blocks
  pub low : ℕ
  pub few : low ≤ 2 ^ 64
  pub counted : IsCounted next 0 low (take i changes) edits blocks
  pub others : ascend low (drop i changes) ≡ true

pub front-start : (next : ℕ) (changes : Changes) → ascend 0 changes ≡ true → Front next next changes 0 [] []
front-start next changes up = record { at = omega arith; low = 0; few = omega arith; counted = counted-none next 0; others = up }

raise-counted : (next low high : ℕ) (cs : Changes) (xs : Edits) (blocks : List (Bid × List ℕ)) → low ≤ high → IsCounted next 0 low cs xs blocks → IsCounted next 0 high cs xs blocks
raise-counted next low high cs xs blocks le c = record { rise = c.rise; small = c.small; most = c.most; edits_rise = edits-raise 0 low high xs le c.edits_rise }

-- what is known of the next change
record Ahead (low : ℕ) (changes : Changes) (i : ℕ) (c : Nid × Option NodeRec) : Type 0 where
  reached : low ≤ (c.0).bits
  others : ascend ((c.0).bits + 1) (drop (i + 1) changes) ≡ true

ahead : (low : ℕ) (changes : Changes) (i : ℕ) (c : Nid × Option NodeRec) → i < length changes → c ≡ get_or changes i c → ascend low (drop i changes) ≡ true → Ahead low changes i c
ahead low changes i c h is up =
    let here : drop i changes ≡ c ∷ drop (i + 1) changes = drop-here changes i c h ∙ ap (λ (d : Nid × Option NodeRec). d ∷ drop (i + 1) changes) (sym is) in
    let parts = and_parts (leb low (c.0).bits) (ascend ((c.0).bits + 1) (drop (i + 1) changes)) (sym (ap (ascend low) here) ∙ up) in
    record { reached = leb-true low (c.0).bits parts.0; others = parts.1 }

taken-more : (changes : Changes) (i : ℕ) (c : Nid × Option NodeRec) → i < length changes → c ≡ get_or changes i c → take i changes ++ c ∷ [] ≡ take (i + 1) changes
taken-more changes i c h is = ap (λ (d : Nid × Option NodeRec). take i changes ++ d ∷ []) is ∙ sym (take_more changes i c h)

pub front-next : (next free after : ℕ) (changes : Changes) (i : ℕ) (c : Nid × Option NodeRec) (xs ys : Edits) (front back : List (Bid × List ℕ)) → i < length changes → c ≡ get_or changes i c → (c.0).bits < 2 ^ 64 → after ≡ free + 4 * length back
    → Front next free changes i xs front → IsCounted free (c.0).bits ((c.0).bits + 1) (c ∷ []) ys back → Front next after changes (i + 1) (xs ++ ys) (front ++ back)
front-next next free after changes i c xs ys front back h is small behind f one =
    let a = ahead f.low changes i c h is f.others in
    let at = f.at in
    let both = length-append front back in
    let whole = counted-append next free 0 (c.0).bits ((c.0).bits + 1) (take i changes) (c ∷ []) xs ys front back at (omega arith) (omega arith) (raise-counted next f.low (c.0).bits (take i changes) xs front a.reached f.counted) one in
    record {
      at = omega (arith, behind, at, both);
      low = (c.0).bits + 1;
      few = omega (arith, small);
      counted = subst (λ (l : Changes). IsCounted next 0 ((c.0).bits + 1) l (xs ++ ys) (front ++ back)) (taken-more changes i c h is) whole;
      others = a.others;
    }

pub plans-next : (find : ℕ → Option (List ℕ)) (eof limit : ℕ) (es : List NodeEntry) (next free : ℕ) (changes : Changes) (i : ℕ) (c : Nid × Option NodeRec) (xs ys : Edits) (front back : List (Bid × List ℕ)) (taken more put with_more : List ℕ) → i < length changes → c ≡ get_or changes i c
    → Front next free changes i xs front → IsCounted free (c.0).bits ((c.0).bits + 1) (c ∷ []) ys back → PlansContents find eof limit es (take i changes) xs front taken put → PlansContents find eof limit es (c ∷ []) ys back more with_more
    → PlansContents find eof limit es (take (i + 1) changes) (xs ++ ys) (front ++ back) (taken ++ more) (put ++ with_more)
plans-next find eof limit es next free changes i c xs ys front back taken more put with_more h is f one first later =
    let a = ahead f.low changes i c h is f.others in
    subst (λ (l : Changes). PlansContents find eof limit es l (xs ++ ys) (front ++ back) (taken ++ more) (put ++ with_more)) (taken-more changes i c h is)
    (plans-append find eof limit es 0 (c.0).bits ((c.0).bits + 1) (take i changes) (c ∷ []) xs ys front back taken more put with_more (edits-raise 0 f.low (c.0).bits xs a.reached f.counted.edits_rise) one.edits_rise first later)

-- all changes are planned
pub front-whole : (next free : ℕ) (changes : Changes) (i : ℕ) (xs : Edits) (blocks : List (Bid × List ℕ)) → length changes ≤ i → Front next free changes i xs blocks → IsCounted next 0 (2 ^ 64) changes xs blocks
front-whole next free changes i xs blocks h f =
    subst (λ (l : Changes). IsCounted next 0 (2 ^ 64) l xs blocks) (take_all i changes h) (raise-counted next f.low (2 ^ 64) (take i changes) xs blocks f.few f.counted)
