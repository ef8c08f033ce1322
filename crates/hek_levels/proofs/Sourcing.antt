-- Whom a transaction reads from: by its list, or by keys that its scans miss.
use Rattle.std.proofs.Common.{◌≡◌, ℕ, ◌≤◌, Option, Some, None, Result, Ok, Err}
use Rattle.std.specs.Prelude.{OnOk}
use Rattle.hek_levels.specs.declared.log.Log.{Log}
use Rattle.hek_levels.specs.declared.log.Read.{Read}
use Rattle.hek_levels.specs.declared.log.Place.{Place}
use Rattle.hek_levels.specs.declared.log.Place.TheVariants.{Listed, Missing}
use Rattle.hek_levels.specs.declared.certificate.Writer.{Writer}
use Rattle.hek_levels.specs.declared.certificate.Writer.TheVariants as writer
use Rattle.hek_levels.specs.declared.certificate.Certificate.{Certificate}
use Rattle.hek_levels.specs.Logs.{read_at}
use Rattle.hek_levels.specs.Explanations.{explanation, source_at, listed, given_at, given_of}
use Rattle.hek_levels.specs.Seen.{ReadsTo}
use Rattle.hek_levels.specs.Sweeps.{IsMarked, AreMarked}

-- a transaction that is the source of a missing key is given
given-is : (o : Option Writer) (x : ℕ) → listed o ≡ writer.Transaction x → o ≡ Some (writer.Transaction x)
given-is None x e = cc
given-is (Some w) x e = cc

module _ (log : Log) (c : Certificate) (marked : ℕ → Option ℕ) (t : ℕ) where
  pub sources-marked : ((r x : ℕ) (read : Read) → read_at log t (Listed r) ≡ Some read → source_at c t (Listed r) ≡ writer.Transaction x → IsMarked marked x) →
      ((s key x : ℕ) → given_at (given_of c t) s key ≡ Some (writer.Transaction x) → IsMarked marked x) → AreMarked log (explanation c) marked t
  sources-marked in_list in_scans x f = go f.0 f.2 f.3
    where
      go : (r : Place) → read_at log t r ≡ Some f.1 → source_at c t r ≡ writer.Transaction x → IsMarked marked x
      go (Listed r) there is = in_list r x f.1 there is
      go (Missing s key) there is = in_scans s key x (given-is (given_at (given_of c t) s key) x is)

  pub sources-marked_to : (n : ℕ) → ((r x : ℕ) (read : Read) → read_at log t (Listed r) ≡ Some read → read.operation ≤ n → source_at c t (Listed r) ≡ writer.Transaction x → IsMarked marked x) →
      ((s key x : ℕ) (read : Read) → read_at log t (Missing s key) ≡ Some read → read.operation ≤ n → given_at (given_of c t) s key ≡ Some (writer.Transaction x) → IsMarked marked x) →
      (x : ℕ) → ReadsTo log (explanation c) t n x → IsMarked marked x
  sources-marked_to n in_list in_scans x f = go f.0 f.2 f.4
    where
      go : (r : Place) → read_at log t r ≡ Some f.1 → source_at c t r ≡ writer.Transaction x → IsMarked marked x
      go (Listed r) there is = in_list r x f.1 there f.3 is
      go (Missing s key) there is = in_scans s key x f.1 there f.3 (given-is (given_at (given_of c t) s key) x is)

pub on_ok : {A E : Type 0} {P Q : Type 0} (r : Result A E) → OnOk r P → (P → Q) → OnOk r Q
on_ok (Ok x) p f = f p
on_ok (Err e) p f = tt

pub on_ok_two : {A E : Type 0} {P Q R : Type 0} (r : Result A E) → OnOk r P → OnOk r Q → (P → Q → R) → OnOk r R
on_ok_two (Ok x) p q f = f p q
on_ok_two (Err e) p q f = tt
