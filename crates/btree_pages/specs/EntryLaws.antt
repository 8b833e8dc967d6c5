-- Entries' bytes have their size, read back, and begin with their key.
use Rattle.std.proofs.Common.{◌≡◌, ℕ, ◌+◌, ◌%◌, ◌^◌, ◌<◌, List, [], ◌++◌, length, refl, ap, ◌∙◌, arith}
use Rattle.byteorder.specs.Endian.{little_bytes}
use Rattle.pst_base.specs.Fields.{number_at}
use Rattle.pst_base.specs.Ids.{key_of}
use Rattle.pst_base.proofs.Numbers.{number_at-next, number_at-first}
use Rattle.btree_pages.specs.declared.entry.BlockEntry.{BlockEntry}
use Rattle.btree_pages.specs.declared.entry.NodeEntry.{NodeEntry}
use Rattle.btree_pages.specs.declared.inner.Inner.{Inner}
use Rattle.btree_pages.specs.Entries.{BlockFits, block_bytes, block_of, NodeFits, node_bytes, node_of, node_key, InnerFits, inner_bytes, inner_of}

-- the number whose bytes stand behind those of one, two, three others
second : (n k x y : ℕ) (ys : List ℕ) → x < 256 ^ n → number_at n (k + 0) (little_bytes k y ++ (little_bytes n x ++ ys)) ≡ x
second n k x y ys fit = number_at-next n 0 k y (little_bytes n x ++ ys) ∙ number_at-first n x ys fit

third : (n k m x y z : ℕ) (ys : List ℕ) → x < 256 ^ n
    → number_at n (k + (m + 0)) (little_bytes k y ++ (little_bytes m z ++ (little_bytes n x ++ ys))) ≡ x
third n k m x y z ys fit = number_at-next n (m + 0) k y (little_bytes m z ++ (little_bytes n x ++ ys)) ∙ second n m x z ys fit

fourth : (n k m l x y z w : ℕ) (ys : List ℕ) → x < 256 ^ n
    → number_at n (k + (m + (l + 0))) (little_bytes k y ++ (little_bytes m z ++ (little_bytes l w ++ (little_bytes n x ++ ys)))) ≡ x
fourth n k m l x y z w ys fit =
    number_at-next n (m + (l + 0)) k y (little_bytes m z ++ (little_bytes l w ++ (little_bytes n x ++ ys))) ∙ third n m l x z w ys fit

pub length-block_bytes : (e : BlockEntry) → length (block_bytes e) ≡ 24
unfolding block_bytes
length-block_bytes e = refl

pub block_of-block_bytes : (e : BlockEntry) → BlockFits e → block_of (block_bytes e) ≡ e
unfolding block_bytes block_of
block_of-block_bytes e fits =
    let bid = e.at.bid.bits in
    let tail = little_bytes 2 e.refs ++ little_bytes 4 0 in
    rw (
      number_at-first 8 bid (little_bytes 8 e.at.ib ++ (little_bytes 2 e.cb ++ tail)) fits.bid,
      second 8 8 e.at.ib bid (little_bytes 2 e.cb ++ tail) fits.ib,
      third 2 8 8 e.cb bid e.at.ib tail fits.cb,
      fourth 2 8 8 2 e.refs bid e.at.ib e.cb (little_bytes 4 0) fits.refs,
    ) refl

pub key-block_bytes : (e : BlockEntry) → BlockFits e → key_of (number_at 8 0 (block_bytes e)) ≡ key_of e.at.bid.bits
unfolding block_bytes
key-block_bytes e fits =
    ap key_of (number_at-first 8 e.at.bid.bits (little_bytes 8 e.at.ib ++ (little_bytes 2 e.cb ++ (little_bytes 2 e.refs ++ little_bytes 4 0))) fits.bid)

pub length-node_bytes : (e : NodeEntry) → length (node_bytes e) ≡ 32
unfolding node_bytes
length-node_bytes e = refl

pub key-node_bytes : (e : NodeEntry) → NodeFits e → node_key (number_at 8 0 (node_bytes e)) ≡ e.nid.bits
unfolding node_bytes
key-node_bytes e fits =
    let fit = fits.nid in
    let whole : e.nid.bits % 2 ^ 32 ≡ e.nid.bits = omega (arith, fit) in
    ap node_key (number_at-first 8 e.nid.bits (little_bytes 8 e.content.bits ++ (little_bytes 8 e.subnodes.bits ++ (little_bytes 4 e.parent.bits ++ little_bytes 4 0))) (omega (arith, fit)))
    ∙ whole

pub node_of-node_bytes : (e : NodeEntry) → NodeFits e → node_of (node_bytes e) ≡ e
unfolding node_bytes node_of
node_of-node_bytes e fits =
    let nid = e.nid.bits in
    let tail = little_bytes 4 e.parent.bits ++ little_bytes 4 0 in
    let key : node_key (number_at 8 0 (little_bytes 8 nid ++ (little_bytes 8 e.content.bits ++ (little_bytes 8 e.subnodes.bits ++ tail)))) ≡ nid = key-node_bytes e fits in
    rw (
      key,
      second 8 8 e.content.bits nid (little_bytes 8 e.subnodes.bits ++ tail) fits.content,
      third 8 8 8 e.subnodes.bits nid e.content.bits tail fits.subnodes,
      fourth 4 8 8 8 e.parent.bits nid e.content.bits e.subnodes.bits (little_bytes 4 0) fits.parent,
    ) refl

pub key-block_of : (b : List ℕ) → key_of (block_of b).at.bid.bits ≡ key_of (number_at 8 0 b)
unfolding block_of
key-block_of b = refl

pub key-node_of : (b : List ℕ) → (node_of b).nid.bits ≡ node_key (number_at 8 0 b)
unfolding node_of
key-node_of b = refl

pub key_of-key_of : (x : ℕ) → key_of (key_of x) ≡ key_of x
key_of-key_of x = omega arith

pub node_key-node_key : (x : ℕ) → node_key (node_key x) ≡ node_key x
node_key-node_key x = omega arith

pub length-inner_bytes : (e : Inner) → length (inner_bytes e) ≡ 24
unfolding inner_bytes
length-inner_bytes e = refl

pub key-inner_bytes : (e : Inner) → InnerFits e → number_at 8 0 (inner_bytes e) ≡ e.key
unfolding inner_bytes
key-inner_bytes e fits = number_at-first 8 e.key (little_bytes 8 e.page.bid.bits ++ little_bytes 8 e.page.ib) fits.key

pub inner_of-inner_bytes : (e : Inner) → InnerFits e → inner_of (inner_bytes e) ≡ e
unfolding inner_bytes inner_of
inner_of-inner_bytes e fits =
    let key = e.key in
    rw (
      number_at-first 8 key (little_bytes 8 e.page.bid.bits ++ little_bytes 8 e.page.ib) fits.key,
      second 8 8 e.page.bid.bits key (little_bytes 8 e.page.ib) fits.bid,
      third 8 8 8 e.page.ib key e.page.bid.bits [] fits.ib,
    ) refl
