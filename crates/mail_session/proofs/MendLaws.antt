-- How `mend` ends, put together from the mending and from what it says.
use Rattle.std.proofs.Common.{◌≡◌, ◌⊎◌, ◌∙◌, ◌++◌, ℕ, Bool, true, List, [], ◌∷◌, take, Result, Ok, Err, IfErr, inl, inr, refl, sym, ap, subst, arith}
use Rattle.std.proofs.lemmas.List.{append-nil}
use Rattle.pst_outside.specs.World.{Image, SameDisk, World}
use Rattle.pst_outside.specs.Calls.{NeverFall, Rose, Settled}
use Rattle.pst_outside.proofs.Moments.{continues, quiet, weaker}
use Rattle.pst_header.specs.Format.{reading}
use Rattle.pst_header.specs.declared.header.Header.{Header}
use Rattle.file_blocks.specs.Blocks.{file_of}
use Rattle.file_layout.specs.Nodes.{Lays, NodeMap}
use Rattle.line_server.proofs.Hearing.{falls_along, falls_started}
use Rattle.tree_look.proofs.mail_draft_laws.Looking.{untouched_same}
use Rattle.node_port.specs.Stops.{Room}
use Rattle.node_port.specs.Pins.{no_pins}
use Rattle.pst_commit.specs.Keeping.{HasRoom, IsCommitted, IsMeasured}
use Rattle.file_planner.specs.Becomes.{IsMade}
use Rattle.file_planner.specs.Cost.{IsWithin}
use Rattle.file_filling.specs.store_session.Disks.{Medium, medium}
use Rattle.pst_commit.specs.Laws.{stands_on}
use Rattle.mail_searches.specs.Searching.{Searching}
use Rattle.mail_tree.specs.Changing.{Answer}
use Rattle.mail_tree.specs.Whole.{Fine}
use Rattle.search_lists.specs.Order.{InOrder}
use Rattle.file_mending.specs.search_mending.Laws.{IsMendable}
use Rattle.file_mending.specs.search_mending.Mended.{mended}
use Rattle.file_mending.proofs.search_mending_laws.AllLaws.{mends_all}
use Rattle.file_mending.specs.search_mends.Mends.{MendRun, MendsSearches, StopsBefore, disk_mended}
use Rattle.file_mending.proofs.search_mends_laws.Runs.{turns_still}
use Rattle.file_mending.specs.search_mends.Stops.{IsCaused}
use Rattle.file_mending.specs.search_mends.declared.all.Mended.{Mended}
use Rattle.file_mending.specs.search_mends.declared.stop.MendStop.{MendStop}
use Rattle.file_mending.specs.search_mends.declared.stop.MendStop.TheVariants as stops
use Rattle.file_mending.specs.FileMends.{FileMendEnds, MendsFiles, ReadsMendable, front_of}
use Rattle.file_mending.proofs.Opened.{mends_then}
use Rattle.file_filling.specs.file_session.FileRun.{ReadsAs}
use Rattle.mail_session.specs.Info.{Says}
use Rattle.mail_session.specs.Mend.{IsMendedText, IsPartMended, IsRefusal, IsStoppedText, MendEnds, MendRead, MendServes, MendUnread, MendsIn, MendsTree, SaysEnd, SaysMended, SaysOrLacks, mended_line, stop_line}
use Rattle.mail_session.specs.Worlds.{HasDiskOf, KeepsDisk}
use Rattle.mail_session.specs.declared.exit.ChangedAt.{ChangedAt}
use Rattle.mail_session.specs.declared.exit.Status.{Status}
use Rattle.mail_session.specs.declared.exit.Status.TheVariants.{Done, Refused, Disk, Output, Memory, Changed}
use Rattle.mail_session.proofs.InfoLaws.{meant-output}
use Rattle.mail_session.proofs.FillLaws.{disk_then, medium_then}

-- what a mending comes to
abbrev Ends : Type 0
Ends = Result Mended MendStop

-- ---- while something is said

reads_there : (tidy : Bool) (found : List ℕ) (a b : Image) (Y : Searching) → SameDisk a b → ReadsMendable tidy found a Y → ReadsMendable tidy found b Y
reads_there tidy found a b Y same r =
    let s = r.0 in
    (record { nodes = s.nodes; held = stands_on found a b same s.nodes Y.tree.last s.held; at = s.at; counters = s.counters }, r.1)

file_there : {a b : Image} → SameDisk a b → file_of b ≡ file_of a
file_there {a} {b} same = λ i. file_of (record { main = same.main i; side = same.side i; copy = b.copy; said = b.said })

-- the room of a file that lays nodes
abbrev Measures : Header → NodeMap → Room → List ℕ → Type 0
Measures header m room file = (l : Lays header file m) × ((used : List Bool) × IsMeasured header l.blocks l.nodes used room.pins.opened (room.free, room.pages, room.spent))

room_there : (a b : Image) (room : Room) → SameDisk a b → HasRoom a room → HasRoom b room
room_there a b room same h =
    let f = file_there same in
    let now = subst (Measures h.header h.m room) (sym f) (h.lays, (h.used, h.measured)) in
    record { header = h.header; read = ap (λ file. reading (take 564 file)) f ∙ h.read; m = h.m; lays = now.0; used = now.1.0; measured = now.1.1 }

-- searches were mended from disk to disk
abbrev Ran : World → Medium → Searching → Searching → Type 0
Ran now opened X Y = MendRun (IsCommitted IsMade IsWithin no_pins.opened) now.tells X opened Y (medium now)

-- and the last disk is the same behind what only says
ran_then : (mid new : World) (opened : Medium) (X Y : Searching) → KeepsDisk mid new → Ran mid opened X Y → Ran new opened X Y
ran_then mid new opened X Y keeps r = record {
  turns = r.turns;
  run = turns_still (IsCommitted IsMade IsWithin no_pins.opened) X opened r.turns keeps.told r.run;
  tree = r.tree;
  disk = λ t. medium_then (disk_mended opened r.turns) (medium mid) (medium new) (r.disk (keeps.told t)) (disk_then mid new keeps t);
}

-- ---- what is said, in one form

-- a text that means a status
abbrev Means : Ends → Status → List ℕ → Type 0
Means (Ok m) meant text = (meant ≡ Done) × (text ≡ mended_line m)
Means (Err stop) meant text = (meant ≡ Refused) × IsRefusal stop × (text ≡ stop_line stop)

-- an end without a text
abbrev IsQuiet : Ends → Status → Type 0
IsQuiet end status = (status ≡ Memory) ⊎ (((end ≡ Err stops.Fault) × (status ≡ Disk)) ⊎ ((at : ChangedAt) × (end ≡ Err (stops.Changed at.ib at.stored at.computed)) × (status ≡ Changed at)))

abbrev Spoken : {W : Type 0} → Ends → W → W → World → World → Status → Type 0
Spoken end v w mid new status = ((text : List ℕ) × (meant : Status) × Means end meant text × Says text meant mid new status) ⊎ (IsQuiet end status × (w ≡ v))

or_lacks : {W : Type 0} (end : Ends) (text : List ℕ) (meant : Status) (v w : W) (mid new : World) (status : Status) → Means end meant text → SaysOrLacks text meant v w mid new status → Spoken end v w mid new status
or_lacks end text meant v w mid new status means (inl says) = inl (text, meant, means, says)
or_lacks end text meant v w mid new status means (inr lacks) = inr (inl lacks.0, lacks.1)

spoken : {W : Type 0} (end : Ends) (v w : W) (mid new : World) (status : Status) → SaysEnd end v w mid new status → Spoken end v w mid new status
spoken (Ok m) v w mid new status s = or_lacks (Ok m) (mended_line m) Done v w mid new status (refl, refl) s
spoken (Err (stops.Rows n)) v w mid new status s = or_lacks (Err (stops.Rows n)) (stop_line (stops.Rows n)) Refused v w mid new status (refl, tt, refl) s
spoken (Err (stops.Full free need)) v w mid new status s = or_lacks (Err (stops.Full free need)) (stop_line (stops.Full free need)) Refused v w mid new status (refl, tt, refl) s
spoken (Err stops.Ids) v w mid new status s = or_lacks (Err stops.Ids) (stop_line stops.Ids) Refused v w mid new status (refl, tt, refl) s
spoken (Err stops.Fault) v w mid new status s = inr (inr (inl (refl, s.0)), s.1)
spoken (Err (stops.Changed ib stored computed)) v w mid new status s = inr (inr (inr (record { ib = ib; stored = stored; computed = computed }, refl, s.0)), s.1)
spoken (Err stops.Memory) v w mid new status s = inr (inl s.0, s.1)

meant_kind : (end : Ends) (meant : Status) (text : List ℕ) → Means end meant text → (meant ≡ Done) ⊎ (meant ≡ Refused)
meant_kind (Ok m) meant text means = inl means.0
meant_kind (Err stop) meant text means = inr means.0

-- ---- ends that differ

memory_disk : Memory ≡ Disk → ⊥
memory_disk is = cc

memory_done : Memory ≡ Done → ⊥
memory_done is = cc

memory_output : Memory ≡ Output → ⊥
memory_output is = cc

disk_done : Disk ≡ Done → ⊥
disk_done is = cc

disk_output : Disk ≡ Output → ⊥
disk_output is = cc

changed_done : (at : ChangedAt) → Changed at ≡ Done → ⊥
changed_done at is = cc

changed_disk : (at : ChangedAt) → Changed at ≡ Disk → ⊥
changed_disk at is = cc

changed_output : (at : ChangedAt) → Changed at ≡ Output → ⊥
changed_output at is = cc

done_disk : Done ≡ Disk → ⊥
done_disk is = cc

refused_disk : Refused ≡ Disk → ⊥
refused_disk is = cc

output_disk : Output ≡ Disk → ⊥
output_disk is = cc

refused_done : Refused ≡ Done → ⊥
refused_done is = cc

output_done : Output ≡ Done → ⊥
output_done is = cc

-- an end by which an opening gives nothing
abbrev IsUnopened : Ends → Type 0
IsUnopened (Err stops.Fault) = Unit {0}
IsUnopened (Err stops.Memory) = Unit {0}
IsUnopened other = ⊥

unopened_is : (end : Ends) → (end ≡ Err stops.Fault) ⊎ (end ≡ Err stops.Memory) → IsUnopened end
unopened_is end is = elim is [ inl f ↦ subst IsUnopened (sym f) tt | inr m ↦ subst IsUnopened (sym m) tt ]

not_meant : (end : Ends) (meant : Status) (text : List ℕ) → Means end meant text → IsUnopened end → ⊥
not_meant (Ok m) meant text means is = is
not_meant (Err (stops.Rows n)) meant text means is = is
not_meant (Err (stops.Full free need)) meant text means is = is
not_meant (Err stops.Ids) meant text means is = is
not_meant (Err stops.Fault) meant text means is = means.1
not_meant (Err (stops.Changed ib stored computed)) meant text means is = is
not_meant (Err stops.Memory) meant text means is = means.1

-- mending never stops as something changed
no_change : (room : Room) (X : Searching) (rest : List ℕ) (ib stored computed : ℕ) → StopsBefore room X rest (stops.Changed ib stored computed) → ⊥
no_change room X [] ib stored computed is = apart is
  where
    apart : stops.Changed ib stored computed ≡ stops.Memory → ⊥
    apart e = cc
no_change room X (f ∷ rest) ib stored computed is = is

-- ---- nothing is said

module _ {old mid : World} (end : Ends) (counts : NeverFall old mid) (input : mid.tells → mid.input ≡ old.input) (cause : IfErr end (IsCaused true old.disk_faults mid.disk_faults)) (ends : mid.tells → FileMendEnds IsMade IsWithin old mid end) where
  quiet_said : (P : Ends → Type 0) (status : Status) → IsQuiet end status → ((at : ChangedAt) → end ≡ Err (stops.Changed at.ib at.stored at.computed) → ⊥) → SaysMended P status []
  quiet_said P status q never = elim q [
    | inl m ↦ subst (λ (s : Status). SaysMended P s []) (sym m) refl
    | inr (inl f) ↦ subst (λ (s : Status). SaysMended P s []) (sym f.1) refl
    | inr (inr c) ↦ absurd (never c.0 c.1)
  ]

  quiet_done : (status : Status) → IsQuiet end status → status ≡ Done → ⊥
  quiet_done status q is = elim q [ inl m ↦ memory_done (sym m ∙ is) | inr (inl f) ↦ disk_done (sym f.1 ∙ is) | inr (inr c) ↦ changed_done c.0 (sym c.2 ∙ is) ]

  never_changed : (P : Searching → Type 0) (room : Room) (X : Searching) → MendsSearches P room X end → (at : ChangedAt) → end ≡ Err (stops.Changed at.ib at.stored at.computed) → ⊥
  never_changed P room X m at is =
      let s = subst (MendsSearches P room X) is m in
      no_change room s.so_far s.rest at.ib at.stored at.computed s.why

  unopened_changed : (at : ChangedAt) → IsUnopened end → end ≡ Err (stops.Changed at.ib at.stored at.computed) → ⊥
  unopened_changed at un is = subst IsUnopened is un

  quiet_tree : (tidy : Bool) (found : List ℕ) (X : Searching) (status : Status) → IsQuiet end status → mid.tells → MendsFiles IsMade IsWithin tidy found old mid X end → MendsTree tidy found old mid X status
  quiet_tree tidy found X status q t f = record {
    images = weaker (IsPartMended tidy found old mid X) f.images (λ c told is. inl is);
    opened = f.opened;
    store = f.store;
    opening = f.opening;
    idle = f.idle;
    said = (
      [],
      quiet_said (MendsIn tidy found f.opened mid X) status q (never_changed (λ Y. (ReadsMendable tidy found mid.here Y × Settled mid × HasRoom mid.here f.room) × Ran mid f.opened X Y) f.room X f.mends),
      (f.images.here t).0 ∙ sym (append-nil old.here.said),
    );
    fresh = λ is. absurd (quiet_done status q is);
  }

  quiet_told : (status : Status) → IsQuiet end status → mid.tells → FileMendEnds IsMade IsWithin old mid end → MendUnread old mid status ⊎ MendRead old mid status
  quiet_told status q t (inl u) =
      let un = unopened_is end u.ends in
      inl (record {
        statuses = elim q [ inl m ↦ inr m | inr (inl f) ↦ inl f.1 | inr (inr c) ↦ absurd (unopened_changed c.0 un c.1) ];
        said = u.said;
        images = u.images;
      })
  quiet_told status q t (inr o) = inr (record {
    start = o.start;
    reads = o.reads;
    stands = o.stands;
    mends = λ still tidy read. quiet_tree tidy (front_of old.here) o.start status q t (o.mends still tidy read);
  })

  quiet_fault : (status : Status) → IsQuiet end status → status ≡ Disk → Rose old.disk_faults mid.disk_faults
  quiet_fault status q is = elim q [
    | inl m ↦ absurd (memory_disk (sym m ∙ is))
    | inr (inl f) ↦ (subst (λ (e : Ends). IfErr e (IsCaused true old.disk_faults mid.disk_faults)) f.0 cause).0
    | inr (inr c) ↦ absurd (changed_disk c.0 (sym c.2 ∙ is))
  ]

  quiet_serves : (status : Status) → IsQuiet end status → MendServes old mid status
  quiet_serves status q = record {
    counts = counts;
    input = input;
    statuses = elim q [ inl m ↦ inr (inr (inr (inr (inl m)))) | inr (inl f) ↦ inr (inr (inl f.1)) | inr (inr c) ↦ inr (inr (inr (inr (inr (c.0, c.2))))) ];
    disk_failed = quiet_fault status q;
    output_failed = λ is. absurd (elim q [ inl m ↦ memory_output (sym m ∙ is) | inr (inl f) ↦ disk_output (sym f.1 ∙ is) | inr (inr c) ↦ changed_output c.0 (sym c.2 ∙ is) ]);
    told = λ t. quiet_told status q t (ends t);
  }

  -- ---- a text is said

  module _ {new : World} {text : List ℕ} {meant status : Status} (means : Means end meant text) (says : Says text meant mid new status) where
    -- nothing is pending where mending ended with a text
    settled_mid : (P : Searching → Type 0) (room : Room) (X : Searching) → ((Y : Searching) → P Y → Settled mid) → (e : Ends) → Means e meant text → MendsSearches P room X e → Settled mid
    settled_mid P room X f (Ok m) means mends = f mends.so_far mends.has_it
    settled_mid P room X f (Err (stops.Rows n)) means mends = f mends.so_far mends.has_it
    settled_mid P room X f (Err (stops.Full free need)) means mends = f mends.so_far mends.has_it
    settled_mid P room X f (Err stops.Ids) means mends = f mends.so_far mends.has_it
    settled_mid P room X f (Err stops.Fault) means mends = absurd means.1
    settled_mid P room X f (Err (stops.Changed ib stored computed)) means mends = absurd means.1
    settled_mid P room X f (Err stops.Memory) means mends = absurd means.1

    disk_of_end : (c : Image) → Settled mid → new.tells → HasDiskOf mid c → SameDisk new.here c
    disk_of_end c settled told has =
        let here : SameDisk mid.here c = elim has [ inl it ↦ it | inr left ↦ subst (λ (i : Image). SameDisk i c) (settled left.0 left.1) left.2 ] in
        let end_is : SameDisk mid.here new.here = says.keeps.same told in
        record { main = here.main ∙ sym end_is.main; side = here.side ∙ sym end_is.side; copy = here.copy ∙ sym end_is.copy }

    -- a text that means a status says what it means
    whole_said : (P : Ends → Type 0) (e : Ends) → Means e meant text → P e → SaysMended P meant text
    whole_said P (Ok m) means p = subst (λ (s : Status). SaysMended P s text) (sym means.0) (m, p, means.1)
    whole_said P (Err stop) means p = subst (λ (s : Status). SaysMended P s text) (sym means.0) (stop, means.1, p, means.2)

    either_text : (P : Ends → Type 0) (e : Ends) → Means e meant text → P e → IsMendedText P text ⊎ IsStoppedText P text
    either_text P (Ok m) means p = inl (m, p, means.1)
    either_text P (Err stop) means p = inr (stop, means.1, p, means.2)

    said_text : (P : Ends → Type 0) → P end → new.tells → mid.here.said ≡ old.here.said → (part : List ℕ) × SaysMended P status part × (new.here.said ≡ old.here.said ++ part)
    said_text P p t silent = elim says.failed [
      | inl m ↦ (
        text,
        subst (λ (s : Status). SaysMended P s text) (sym m) (whole_said P end means p),
        says.whole (λ is. meant-output (meant_kind end meant text means) (sym m ∙ is)) t ∙ ap (λ (l : List ℕ). l ++ text) silent,
      )
      | inr f ↦ let k = (says.front t).0 in (
        take k text,
        subst (λ (s : Status). SaysMended P s (take k text)) (sym f.0) (text, k, either_text P end means p, refl),
        (says.front t).1 ∙ ap (λ (l : List ℕ). l ++ take k text) silent,
      )
    ]

    -- where all was mended, each running search lists what filtering lists
    fresh_end : (tidy : Bool) (found : List ℕ) (P : Searching → Type 0) (room : Room) (X : Searching) → IsMendable tidy X → ((Y : Searching) → P Y → ReadsMendable tidy found new.here Y) → (e : Ends) → Means e meant text → MendsSearches P room X e → meant ≡ Done
        → (Y : Searching) × (mended X ≡ Ok Y) × ReadsAs tidy found new.here Y
    fresh_end tidy found P room X order f (Ok m) means mends is =
        let fine : Fine (mended X) (InOrder tidy) = mends_all tidy X order in
        let fresh : InOrder tidy mends.so_far = subst (λ (a : Answer Searching). Fine a (InOrder tidy)) mends.mended fine in
        (mends.so_far, mends.mended, ((f mends.so_far mends.has_it).0, fresh))
    fresh_end tidy found P room X order f (Err stop) means mends is = absurd (refused_done (sym means.0 ∙ is))

    said_tree : (tidy : Bool) (found : List ℕ) (X : Searching) → new.tells → IsMendable tidy X → MendsFiles IsMade IsWithin tidy found old mid X end → MendsTree tidy found old new X status
    said_tree tidy found X t order f =
        let there = says.keeps.told t in
        let at_mid : Searching → Type 0 = λ Y. (ReadsMendable tidy found mid.here Y × Settled mid × HasRoom mid.here f.room) × Ran mid f.opened X Y in
        let at_new : Searching → Type 0 = λ Y. (ReadsMendable tidy found new.here Y × HasRoom new.here f.room) × Ran new f.opened X Y in
        let same : SameDisk mid.here new.here = says.keeps.same t in
        let later : MendsSearches at_new f.room X end =
        mends_then at_mid at_new f.room X end (λ Y h. ((reads_there tidy found mid.here new.here Y same h.0.0, room_there mid.here new.here f.room same h.0.2), ran_then mid new f.opened X Y says.keeps h.1)) f.mends in
        let settled : Settled mid = settled_mid at_mid f.room X (λ Y h. h.0.1) end means f.mends in
        record {
          images = continues (weaker (IsPartMended tidy found old new X) f.images (λ c told is. inl is)) says.keeps.disk (λ c told has. inr (disk_of_end c settled told has));
          opened = f.opened;
          store = f.store;
          opening = f.opening;
          idle = f.idle;
          said = said_text (MendsIn tidy found f.opened new X) (f.room, later) t (f.images.here there).0;
          fresh = λ is.
              fresh_end tidy found at_new f.room X order (λ Y h. h.0.0) end means later
              (elim says.failed [ inl m ↦ sym m ∙ is | inr o ↦ absurd (output_done (sym o.0 ∙ is)) ]);
        }

    said_told : new.tells → FileMendEnds IsMade IsWithin old mid end → MendUnread old new status ⊎ MendRead old new status
    said_told t (inl u) = absurd (not_meant end meant text means (unopened_is end u.ends))
    said_told t (inr o) = inr (record {
      start = o.start;
      reads = o.reads;
      stands = o.stands;
      mends = λ still tidy read. said_tree tidy (front_of old.here) o.start t read.1 (o.mends still tidy read);
    })

    said_serves : MendServes old new status
    said_serves =
        let kind = meant_kind end meant text means in
        record {
          counts = falls_along counts says.keeps.counts;
          input = λ t. says.input t ∙ input (says.keeps.told t);
          statuses = elim says.failed [ inl m ↦ elim kind [ inl d ↦ inl (m ∙ d) | inr r ↦ inr (inl (m ∙ r)) ] | inr f ↦ inr (inr (inr (inl f.0))) ];
          disk_failed = λ is. absurd (elim says.failed [ inl m ↦ elim kind [ inl d ↦ done_disk (sym d ∙ sym m ∙ is) | inr r ↦ refused_disk (sym r ∙ sym m ∙ is) ] | inr f ↦ output_disk (sym f.0 ∙ is) ]);
          output_failed = λ is. elim says.failed [ inl m ↦ absurd (meant-output kind (sym m ∙ is)) | inr f ↦ rose f.1 ];
          told = λ t. said_told t (ends (says.keeps.told t));
        }
      where
        rose : Rose mid.out_faults new.out_faults → Rose old.out_faults new.out_faults
        rose r = omega (arith, counts.out_faults, r)

-- ---- both

pub mend_serves : {W : Type 0} (view : W → World) (old : World) (v w : W) (end : Ends) (status : Status) → NeverFall old (view v) → ((view v).tells → (view v).input ≡ old.input) → IfErr end (IsCaused true old.disk_faults (view v).disk_faults)
    → ((view v).tells → FileMendEnds IsMade IsWithin old (view v) end) → SaysEnd end v w (view v) (view w) status → MendServes old (view w) status
mend_serves view old v w end status counts input cause ends s = elim (spoken end v w (view v) (view w) status s) [
  | inl it ↦ said_serves end counts input cause ends it.2 it.3
  | inr q ↦ subst (λ x. MendServes old (view x) status) (sym q.1) (quiet_serves end counts input cause ends status q.0)
]

-- nothing was asked of the world
pub mend_unasked : (world : World) → MendEnds world world Memory
mend_unasked world = inr (record {
  counts = falls_started world;
  input = λ t. refl;
  statuses = inr (inr (inr (inr (inl refl))));
  disk_failed = λ is. absurd (memory_disk is);
  output_failed = λ is. absurd (memory_output is);
  told = λ t. inl (record { statuses = inr refl; said = refl; images = λ settled tidy X reads. quiet (λ c. (c.said ≡ world.here.said) × ReadsMendable tidy (front_of world.here) c X) settled (untouched_same world) (λ told. (refl, reads)) });
})
