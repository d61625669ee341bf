-- Rows of frequencies.txt, read by values that are the same.
use Rattle.std.proofs.Common.{◌≡◌, ℕ, Bool, List, Option, Result, subst}
use Rattle.gtfs_tables.specs.Fields.Rules.{first_of}
use Rattle.gtfs_tables.specs.Fields.Fields.{ReadsItem}
use Rattle.gtfs_tables.specs.Calendars.Frequencies.{frequency_of, frequency_rules}
use Rattle.gtfs_tables.specs.declared.calendars.frequency.Frequency.{Frequency}

pub reads_frequency : (trip name : Option (List ℕ)) (unknown missing : Bool) (headway recorded : Option ℕ) (from first to last : Option ℕ) (r : Result Frequency ℕ)
    → trip ≡ name → unknown ≡ missing → headway ≡ recorded → from ≡ first → to ≡ last
    → ReadsItem (first_of (frequency_rules trip unknown headway from to)) (frequency_of trip headway from to) r
    → ReadsItem (first_of (frequency_rules name missing recorded first last)) (frequency_of name recorded first last) r
reads_frequency trip name unknown missing headway recorded from first to last r a b c d e h =
    subst (λ (x : Option (List ℕ)). ReadsItem (first_of (frequency_rules x missing recorded first last)) (frequency_of x recorded first last) r) a
    (subst (λ (x : Bool). ReadsItem (first_of (frequency_rules trip x recorded first last)) (frequency_of trip recorded first last) r) b
    (subst (λ (x : Option ℕ). ReadsItem (first_of (frequency_rules trip unknown x first last)) (frequency_of trip x first last) r) c
    (subst (λ (x : Option ℕ). ReadsItem (first_of (frequency_rules trip unknown headway x last)) (frequency_of trip headway x last) r) d
    (subst (λ (x : Option ℕ). ReadsItem (first_of (frequency_rules trip unknown headway from x)) (frequency_of trip headway from x) r) e h))))
