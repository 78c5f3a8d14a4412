-- `inventory::page::put_page` puts the inventory's page. Assumes nothing.
use native.Mathlib.Omega.{arith}
use mathlib.Core.Path.{◌≡◌, subst}
use lib.ListN.{length}
use Rattle.sound.specs.Says.{OpenedSays, Unopened}
use Rattle.store.specs.Sound.{SoundAt}
use Rattle.text.proofs.Puts.{put_as, put_counts}
use Prim.Native.Nat.{◌≤◌}
use Rattle.pages.specs.Says.{most_page}
use Rattle.inventory.proofs.Pages.{refused_page, totals_room, page_put, number_room}
use Rattle.inventory.proofs.page.put_page.Goals as goal
use Rattle.inventory.proofs.page.put_page.Goals.{After-put_lines-x, In-Err, In-Ok}

-- 1 or 2 says no
refused : (k : In-Err) → Unopened k.args.s.now k.in-Err.e
refused k = subst (OpenedSays k.args.s.now) k.in-Err.is k.open_store.ensures

-- the store is sound
is-sound : (k : In-Ok) → SoundAt k.args.s.now k.in-Ok.used
is-sound k = subst (OpenedSays k.args.s.now) k.in-Ok.is k.open_store.ensures

-- the buffer keeps its length behind the lines
same : (k : After-put_lines-x) → length k.put_lines-x.new.out ≡ length k.args.out.now
same k = k.put_lines-x.auto.out

long : (k : After-put_lines-x) → most_page ≤ length k.put_lines-x.new.out
long k = omega (arith, same k, k.requires)

pub put_number-requires : goal.put_number-requires
put_number-requires c =
    number_room c.number.result _ (omega (arith, c.number.ensures.1)) c.requires

pub put_lines-x-requires : goal.put_lines-x-requires
put_lines-x-requires c =
    (is-sound (goal.at.put_lines-x-requires c).In-Ok, c.requires)

pub put_three-requires : goal.put_three-requires
put_three-requires c =
    totals_room c.put_lines-x.ensures (long (goal.at.put_three-requires c).After-put_lines-x)

pub returns-in-Err : goal.returns-in-Err
returns-in-Err c =
    let done = put_as (rw c.number.ensures.0 (refused_page _ _ (refused (goal.at.returns-in-Err c).In-Err))) c.put_number.ensures in
    record { put = done; prefix_len = put_counts done (omega arith) }

pub returns-in-Ok : goal.returns-in-Ok
returns-in-Ok c =
    let done = page_put c.put_lines-x.ensures (long (goal.at.returns-in-Ok c).After-put_lines-x) (is-sound (goal.at.returns-in-Ok c).In-Ok) (same (goal.at.returns-in-Ok c).After-put_lines-x) c.put_three.ensures in
    record { put = done; prefix_len = put_counts done (omega arith) }
