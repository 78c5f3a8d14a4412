-- `homes::domain_of` meets its contract: the AID at the place told, or in the entry of the package. Assumes nothing.
use native.Mathlib.Omega.{arith}
use mathlib.Core.Path.{subst}
use Rattle.rules.specs.Bytes.{aid}
use Rattle.places.specs.Reads.{Ends}
use Rattle.homes.proofs.Domains.{aid_inside, place_own, place_stored, domain_bytes_lem}
use Rattle.homes.proofs.domain_of.Goals as goal
use Rattle.homes.proofs.domain_of.Goals.{Start}

pub aid_bytes-requires : goal.aid_bytes-requires
aid_bytes-requires c =
    let a = c.args in
    subst (Ends aid a.s.now) (place_own a.h a.d c.if-from-eq0.true) c.requires

pub returns-then-from-eq0 : goal.returns-then-from-eq0
returns-then-from-eq0 c =
    let a = c.args in
    domain_bytes_lem a.h a.d (place_own a.h a.d c.if-from-eq0.true) c.requires c.aid_bytes.ensures

pub overflow_add-before : goal.overflow_add-before
overflow_add-before c =
    let a = c.args in
    omega (arith, aid_inside c.requires, place_stored a.h a.d c.if-from-eq0.false)

pub aid_bytes-requires-2 : goal.aid_bytes-requires-2
aid_bytes-requires-2 c =
    let a = c.args in
    subst (Ends aid a.s.now) (place_stored a.h a.d c.if-from-eq0.false) c.requires

pub returns : goal.returns
returns c =
    let a = c.args in
    domain_bytes_lem a.h a.d (place_stored a.h a.d c.if-from-eq0.false) c.requires c.aid_bytes-2.ensures
