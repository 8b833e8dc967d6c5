-- What a stop leaves within the writing of bytes and the commit of a header over them.
use Rattle.std.proofs.Common.{◌≡◌, ◌∙◌, ◌⊎◌, inl, inr, ℕ, ◌≤◌, List, ◌++◌, length, drop, sym, subst, arith, ⊎_elim}
use Rattle.pst_outside.specs.World.{Image, World}
use Rattle.pst_outside.specs.Calls.{LeavesOnly}
use Rattle.pst_outside.proofs.Moments.{weaker, continues}
use Rattle.gate_file.specs.Gate.{IsShut, IsClosed, UnderEither, IsCommitted, SameStore}
use Rattle.node_port.specs.Nodes.{Nodes}
use Rattle.lays_kept.specs.Stands.{FileStands, Stands, Commits}
use Rattle.lays_kept.proofs.Gates.{closed, shut_file, short_side}
use Rattle.pst_commit.specs.Commit.{Writes, IsApplied, LeavesEither, LeavesNodes}

-- behind a shut gate an image stands for what Main does
pub shut_stands : {found : List ℕ} {N : Nodes} {last : List ℕ} {c : Image} → IsShut c.side → FileStands found c.main N last → Stands found c N last
shut_stands {found} {N} {last} {c} shut stands = record {
  main = stands.long;
  side = short_side c.side shut;
  file = subst (λ f. FileStands found f N last) (sym (shut_file c.main c.side shut)) stands;
}

-- and the other way round
pub main_stands : {found : List ℕ} {N : Nodes} {last : List ℕ} {c : Image} → IsShut c.side → Stands found c N last → FileStands found c.main N last
main_stands {found} {N} {last} {c} shut stands = subst (λ f. FileStands found f N last) (shut_file c.main c.side shut) stands.file

-- within the commit of a header over Main
pub under_stands : {found header : List ℕ} {N M : Nodes} {last next : List ℕ} {mid c : Image} → FileStands found mid.main N last → FileStands found (header ++ drop 564 mid.main) M next → UnderEither header mid c
    → Stands found c N last ⊎ Stands found c M next
under_stands {found} {header} {N} {M} {last} {next} {mid} {c} before after under =
    let long : 564 ≤ length c.main = omega (arith, before.long, under.main) in
    let short : length c.side ≤ 580 = omega (arith, under.side) in
    ⊎_elim
    (λ e. inl (record { main = long; side = short; file = subst (λ f. FileStands found f N last) (sym e) before }))
    (λ e. inr (record { main = long; side = short; file = subst (λ f. FileStands found f M next) (sym e) after }))
    under.file

-- what was written has the header before it
pub applied_now : {header : List ℕ} (has after : List ℕ → Type 0) {old mid new : Image} → Writes has old mid → after mid.main → IsCommitted header mid new → IsApplied (λ file. has file × after file) header old new
applied_now has after {old} {mid} {new} writes holds done = record {
  mid = mid.main;
  file = (writes.file, holds);
  main = done.main;
  shut = done.shut;
  copy = done.copy ∙ writes.others.1;
  said = done.said ∙ writes.others.2;
}

-- the gate stays shut while Main is written
pub closed_still : (old mid : World) {has : List ℕ → Type 0} → (old.tells → IsShut old.here.side) → (mid.tells → old.tells) → (mid.tells → Writes has old.here mid.here) → mid.tells → IsClosed mid.here.side
closed_still old mid shut told content t = closed (subst IsShut (sym (content t).others.0) (shut (told t)))

-- Main is written, from a disk whose gate is shut, and then a header is committed.
module _ {old mid : World} (has after : List ℕ → Type 0) (header found : List ℕ) (N : Nodes) (last : List ℕ) (M : Nodes) (next : List ℕ)
    (shut : old.tells → IsShut old.here.side) (commits : old.tells → Commits found has after header N last M next) (told : mid.tells → old.tells) (run : LeavesOnly old mid (Writes has old.here)) where
  pub while_writing : LeavesEither old mid found N last M next
  while_writing = weaker (λ c. (c.said ≡ old.here.said) × (Stands found c N last ⊎ Stands found c M next)) run
      (λ c t writes. (writes.others.2, inl (shut_stands (subst IsShut (sym writes.others.0) (shut (told t))) ((commits (told t)).keeps c.main writes.file))))

  pub still_long : (mid.tells → Writes has old.here mid.here) → mid.tells → 564 ≤ length mid.here.main
  still_long content t = ((commits (told t)).keeps mid.here.main (content t).file).long

  pub while_committing : {new : World} → (mid.tells → Writes has old.here mid.here) → (mid.tells → after mid.here.main) → (new.tells → mid.tells) → LeavesOnly mid new (UnderEither header mid.here) → LeavesEither old new found N last M next
  while_committing {new} content holds later rest =
      continues while_writing rest
      (λ c t under. let u = later t in (
        under.said ∙ (content u).others.2,
        under_stands ((commits (told u)).keeps mid.here.main (content u).file) ((commits (told u)).makes mid.here.main (content u).file (holds u)) under,
      ))

-- images with the same store stand for the same nodes
pub stands_over : {found : List ℕ} {N : Nodes} {last : List ℕ} {a b : Image} → Stands found a N last → SameStore a b → Stands found b N last
stands_over {found} {N} {last} {a} {b} is same = record {
  main = omega (arith, is.main, same.main);
  side = same.side is.side;
  file = subst (λ f. FileStands found f N last) (sym same.store) is.file;
}

-- where both outcomes are the same nodes
pub leaves_nodes : {old new : World} {found : List ℕ} {N : Nodes} {last next : List ℕ} → next ≡ last → LeavesEither old new found N last N next → LeavesNodes old new found N last
leaves_nodes {old} {new} {found} {N} {last} {next} same run =
    weaker (λ c. (c.said ≡ old.here.said) × Stands found c N last) run (λ c t both. (both.0, ⊎_elim (λ one. one) (λ other. subst (λ l. Stands found c N l) same other) both.1))
