-- That a beginning is fair is known in one way alone, so that a value can keep it.
use Rattle.std.specs.Prelude.{◌<◌, length}
use Rattle.std.specs.Coded.{×_prop, Unit-prop, le_prop, Coded-set, coded_ℕ}
use Rattle.std.specs.List.{AllByRecursion-prop}
use Rattle.ftp_endpoint.specs.Written.{IsTypedHost}
use Rattle.ftp_endpoint.specs.declared.host.Host.{Host}
use Rattle.ftp_endpoint.specs.declared.host.Host.TheVariants.{V4, V6}
use Rattle.laws_world.specs.Claims.{AreRelated}

-- that a host is four or sixteen octets
pub IsTypedHost-prop : (host : Host) → IsProp (IsTypedHost host)
IsTypedHost-prop (V4 octets) = ×_prop (Coded-set coded_ℕ (length octets) 4) (AllByRecursion-prop (λ c. c < 256) (λ c. le_prop) octets)
IsTypedHost-prop (V6 octets) = ×_prop (Coded-set coded_ℕ (length octets) 16) (AllByRecursion-prop (λ c. c < 256) (λ c. le_prop) octets)

-- that two hosts are of one family
pub AreRelated-prop : (one other : Host) → IsProp (AreRelated one other)
AreRelated-prop (V4 one) (V4 other) = Unit-prop
AreRelated-prop (V6 one) (V6 other) = Unit-prop
AreRelated-prop (V4 one) (V6 other) = λ x. absurd x
AreRelated-prop (V6 one) (V4 other) = λ x. absurd x
