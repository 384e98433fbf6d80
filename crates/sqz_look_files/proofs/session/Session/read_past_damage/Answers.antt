use Rattle.sqz_look_files.proofs.DamageLemmas.{HoldsPast-recovered, IsLoaded-recovered, ReadsSome-recovered}
use Rattle.sqz_look_files.proofs.session.Session.read_past_damage.Goals as goal
use Rattle.sqz_look_files.proofs.session.Session.read_past_damage.Goals.{then-not-is_whole+in_ok-print_skipped, else-not-is_whole}

pub returns-clause-read : goal.returns-clause-read
returns-clause-read g c =
    let loaded = rw c.in-Image.is at c.in_ok-recovered.ensures in
    let known = c.is_none-is_whole.ensures in (
      λ whole. (
        elim c.if-not-is_whole.branch [
          | then-not-is_whole+in_ok-print_skipped w ↦ let no = w.if-not-is_whole.true in cc
          | else-not-is_whole w ↦ w.err-is
        ],
        IsLoaded-recovered _ _ _ loaded (known.0 whole),
      ),
      λ damaged. (c.requires, ReadsSome-recovered _ _ _ loaded (λ none. let yes = known.1 none in cc)),
    )

pub returns-clause-image : goal.returns-clause-image
returns-clause-image g c =
    let loaded = rw c.in-Image.is at c.in_ok-recovered.ensures in
    rw c.requires (HoldsPast-recovered _ _ _ loaded)
