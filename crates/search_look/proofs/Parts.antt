-- The searches among the folders that were looked at, folder by folder.
use Rattle.std.proofs.Common.{◌≡◌, inl, inr, ⊎_elim, ◌∙◌, ℕ, ◌==◌, true, false, List, [], ◌∷◌, length, get_or, drop, drop-cons, add-one, ◌+◌, ◌<◌, ◌≤◌, zero, suc, Option, None, Some, IsSome, is_some, Result, Ok, Err, arith, refl, sym, ap, subst}
use Rattle.std.specs.Option.{option_map}
use Rattle.std.proofs.lemmas.Bool.{cases_Bool, cases_eq, eqb-true, eq-eqb}
use Rattle.std.proofs.lemmas.List.{drop_all}
use Rattle.std.proofs.lemmas.Option.{none-some}
use Rattle.std.specs.Result.{IsErrAnd}
use Rattle.mapi_values.specs.Keyed.{find_key, keys_ascend, put_key}
use Rattle.mapi_values.proofs.KeyedLaws.{put-ascends}
use Rattle.mail_objects.specs.Forms.{Ctx, Tbl}
use Rattle.mail_tree.specs.Places.{find_place}
use Rattle.mail_tree.specs.Standing.{HasContext, HasTable}
use Rattle.mail_tree.specs.declared.places.FolderPlace.{FolderPlace}
use Rattle.mail_tree.proofs.FineLaws.{cases_Option}
use Rattle.mail_tree.proofs.KeyedFinds.{find-put_other, find-put_same}
use Rattle.node_port.specs.Nodes.{Nodes}
use Rattle.search_obj.specs.Crits.{Crit, CritSet}
use Rattle.search_obj.specs.Objects.{Says}
use Rattle.search_obj.specs.Scope.{is_among}
use Rattle.mail_searches.specs.Searches.{Search, ShowsCriteria, criteria_node, find_search, results, search_id, search_of}
use Rattle.mail_searches.specs.Searching.{is_own}
use Rattle.mail_searches.proofs.CriteriaLaws.{says-found}
use Rattle.search_look.specs.Having.{HasSearches, IsOwnIn, IsSearchIn}
use Rattle.mail_searches.specs.declared.known.KnownSearches.{KnownSearches}
use Rattle.search_look.specs.Faults.{FindsSearches, HasSearchFault}
use Rattle.search_look.specs.Looking.{ArePart, FoundAt, Refuses, with_set}
use Rattle.search_look.specs.declared.stops.SearchStop.{SearchStop}
use Rattle.search_look.specs.declared.stops.SearchStop.TheVariants.{Refused, Kept}
use Rattle.search_look.proofs.OneAt.{none_shown}

-- ---- ids

among_found : (ids : List ℕ) (f : ℕ) → is_among ids f ≡ is_some (find_key (λ x. x) f ids)
among_found [] f = refl
among_found (x ∷ xs) f = elim (cases_Bool (x == f)) [ inl t ↦ rw t refl | inr b ↦ rw b (among_found xs f) ]

abbrev with_id : ℕ → List ℕ → List ℕ
with_id f own = put_key (λ x. x) f own

own_new : (f : ℕ) (own : List ℕ) → is_own (with_id f own) f ≡ true
own_new f own = among_found (with_id f own) f ∙ ap is_some (find-put_same (λ x. x) f own)

own_other : (f g : ℕ) (own : List ℕ) → (g ≡ f → ⊥) → is_own (with_id f own) g ≡ is_own own g
own_other f g own other = among_found (with_id f own) g ∙ ap is_some (find-put_other (λ x. x) g f own other) ∙ sym (among_found own g)

-- ---- searches

set_ascends : (f : ℕ) (set : Option CritSet) (searches : List Search) → keys_ascend search_id 0 searches ≡ true → keys_ascend search_id 0 (with_set f set searches) ≡ true
set_ascends f None searches a = a
set_ascends f (Some s) searches a = put-ascends search_id 0 (search_of f s) searches (omega arith) a

set_other : (f g : ℕ) (set : Option CritSet) (searches : List Search) → (g ≡ f → ⊥) → find_search g (with_set f set searches) ≡ find_search g searches
set_other f g None searches other = refl
set_other f g (Some s) searches other = find-put_other search_id g (search_of f s) searches other

set_here : (f : ℕ) (set : Option CritSet) (searches : List Search) → (set ≡ None → find_search f searches ≡ None) → find_search f (with_set f set searches) ≡ option_map (search_of f) set
set_here f None searches none = none refl
set_here f (Some s) searches none = find-put_same search_id (search_of f s) searches

-- a folder without criteria has no search yet
none_yet : (N : Nodes) (places rest : List FolderPlace) (own : List ℕ) (searches : List Search) (f : ℕ) (k : Crit) → ArePart N places rest own searches → ((c : Ctx) × HasContext N (criteria_node f) c × Says c.props k)
    → k.set ≡ None → find_search f searches ≡ None
none_yet N places rest own searches f k part said none = elim (cases_Bool (is_own own f)) [
  | inl t ↦ none_shown N (criteria_node f) f searches k said (part.criteria f t) none
  | inr t ↦ elim (cases_Option (find_search f searches)) [ inl e ↦ e | inr s ↦ let gone : true ≡ false = sym (part.among f s.0 s.1) ∙ t in cc ]
]

-- ---- steps

-- nothing was looked at
pub none_part : (N : Nodes) (places : List FolderPlace) → ArePart N places places [] []
none_part N places = record {
  own_ascend = refl;
  ascend = refl;
  among = λ f s e. absurd (none-some s e);
  are_own = λ f e. absurd (never e);
  all = λ f is own. inr is.0;
  criteria = λ f e. absurd (never e);
  tables = λ f e. absurd (never e);
}
  where
    never : false ≡ true → ⊥
    never e = cc

-- all folders were looked at
pub all_parts : (N : Nodes) (places : List FolderPlace) (own : List ℕ) (searches : List Search) → ArePart N places [] own searches → HasSearches N places own searches
all_parts N places own searches part = record {
  own_ascend = part.own_ascend;
  ascend = part.ascend;
  among = part.among;
  are_own = part.are_own;
  all = λ f is own'. ⊎_elim (λ t. t) (λ left. absurd (none_left f left)) (part.all f is own');
  criteria = part.criteria;
  tables = part.tables;
}
  where
    none_left : (f : ℕ) → IsSome (find_place f []) → ⊥
    none_left f never = cc

-- a folder that is left, if it isn't the first of those that are
left_after : (p : FolderPlace) (rest : List FolderPlace) (g : ℕ) → (g ≡ p.nid.bits → ⊥) → IsSome (find_place g (p ∷ rest)) → IsSome (find_place g rest)
left_after p rest g other left = elim (cases_Bool (p.nid.bits == g)) [ inl t ↦ absurd (other (sym (eqb-true p.nid.bits g t))) | inr t ↦ rw t at left ]

-- one that is
put_part : (N : Nodes) (places rest : List FolderPlace) (p : FolderPlace) (own : List ℕ) (searches : List Search) (k : Crit) → IsSearchIn places p.nid.bits → FoundAt N p.nid.bits (Some k) → ArePart N places (p ∷ rest) own searches
    → ArePart N places rest (with_id p.nid.bits own) (with_set p.nid.bits k.set searches)
put_part N places rest p own searches k search found part = record {
  own_ascend = put-ascends (λ x. x) 0 f own (omega arith) part.own_ascend;
  ascend = set_ascends f k.set searches part.ascend;
  among = λ g s e. elim (cases_eq g f) [
    | inl same ↦ subst (λ x. is_own (with_id f own) x ≡ true) (sym same) (own_new f own)
    | inr other ↦ own_other f g own other ∙ part.among g s (sym (set_other f g k.set searches other) ∙ e)
  ];
  are_own = λ g e. elim (cases_eq g f) [
    | inl same ↦ subst (λ x. IsSearchIn places x × IsOwnIn N x) (sym same) (search, found.0)
    | inr other ↦ part.are_own g (sym (own_other f g own other) ∙ e)
  ];
  all = λ g is own'. elim (cases_eq g f) [
    | inl same ↦ inl (subst (λ x. is_own (with_id f own) x ≡ true) (sym same) (own_new f own))
    | inr other ↦ ⊎_elim (λ t. inl (own_other f g own other ∙ t)) (λ left. inr (left_after p rest g other left)) (part.all g is own')
  ];
  criteria = λ g e. elim (cases_eq g f) [
    | inl same ↦ subst (λ x. (c : Ctx) × HasContext N (criteria_node x) c × ShowsCriteria searches' x c.props) (sym same) (found.1.0, found.1.1, (k, says-found (found.1.0).props k found.1.2, here))
    | inr other ↦ let was = part.criteria g (sym (own_other f g own other) ∙ e) in (was.0, was.1, (was.2.0, was.2.1, set_other f g k.set searches other ∙ was.2.2))
  ];
  tables = λ g e. elim (cases_eq g f) [
    | inl same ↦ subst (λ x. (t : Tbl) × HasTable N (results x) t) (sym same) found.2
    | inr other ↦ part.tables g (sym (own_other f g own other) ∙ e)
  ];
}
  where
    f : ℕ
    f = p.nid.bits

    searches' : List Search
    searches' = with_set f k.set searches

    here : find_search f searches' ≡ option_map (search_of f) k.set
    here = set_here f k.set searches (none_yet N places (p ∷ rest) own searches f k part found.1)

pub keep_part : (N : Nodes) (places rest : List FolderPlace) (p : FolderPlace) (own own' : List ℕ) (searches searches' : List Search) (k : Crit) (set : Option CritSet) → IsSearchIn places p.nid.bits → FoundAt N p.nid.bits (Some k) → set ≡ k.set
    → (own' ≡ put_key (λ x. x) p.nid.bits own) × (searches' ≡ with_set p.nid.bits set searches) → ArePart N places (p ∷ rest) own searches → ArePart N places rest own' searches'
keep_part N places rest p own own' searches searches' k set search found same puts part = rw (puts.0, puts.1, same) (put_part N places rest p own searches k search found part)

-- ---- the folders one after another

pub here_place : (places : List FolderPlace) (i : ℕ) (d : FolderPlace) → i < length places → IsSome (find_place ((get_or places i d).nid.bits) places)
here_place [] i d h = absurd (omega arith)
here_place (p ∷ ps) zero d h = rw (eq-eqb p.nid.bits p.nid.bits refl) refl
here_place (p ∷ ps) (suc i) d h = elim (cases_Bool (p.nid.bits == (get_or ps i d).nid.bits)) [ inl t ↦ rw t refl | inr t ↦ rw t (here_place ps i d (omega arith)) ]

pub next_part : (N : Nodes) (places items : List FolderPlace) (i : ℕ) (d : FolderPlace) (own : List ℕ) (searches : List Search) → i < length items → ArePart N places (drop i items) own searches
    → ArePart N places (get_or items i d ∷ drop (i + 1) items) own searches
next_part N places items i d own searches h part = rw (add-one i) (subst (λ rest. ArePart N places rest own searches) (drop-cons items i d h) part)

pub last_part : (N : Nodes) (places items : List FolderPlace) (i : ℕ) (own : List ℕ) (searches : List Search) → length items ≤ i → ArePart N places (drop i items) own searches → HasSearches N places own searches
last_part N places items i own searches h part = all_parts N places own searches (subst (λ rest. ArePart N places rest own searches) (drop_all i items h) part)

-- the answer of a look, in words on all searches
pub finds_searches : (N : Nodes) (places : List FolderPlace) (e : SearchStop) (result : Result KnownSearches SearchStop) → IsErrAnd result (λ x. x ≡ e) → Refuses (HasSearchFault N places) e → FindsSearches N places result
finds_searches N places e (Ok known) h refuses = absurd h
finds_searches N places (Refused refusal) (Err x) h refuses = rw h refuses
finds_searches N places (Kept stop) (Err x) h refuses = rw h tt
