-- What the C library gives of a host and of a clock.
use Rattle.std.specs.Prelude.{◌≡◌, ℕ, List, slice_range}
use Rattle.std.specs.Int.{w32, from_le_bytes}
use Rattle.std.specs.Net.Addr.{ipv4_octets, ipv6_segments, segments_of}
use Rattle.std.specs.Net.Socket.{v4_ip, v6_ip, v6_scope_id}
use Rattle.std.specs.declared.net.socket_addr.SocketAddr.{SocketAddr}
use Rattle.std.specs.declared.net.socket_addr.SocketAddr.TheVariants.{V4, V6}

-- The address is that of a `sockaddr_in` or a `sockaddr_in6` (ip(7), ipv6(7)): the IPv4 address begins at the fifth byte, the IPv6 address
-- at the ninth, and its scope at the 25th.
abbrev pub IsAddressIn : List ℕ → SocketAddr → Type 0
IsAddressIn bytes (V4 a) = ipv4_octets (v4_ip a) ≡ slice_range bytes 4 8
IsAddressIn bytes (V6 a) =
    (ipv6_segments (v6_ip a) ≡ segments_of (slice_range bytes 8 24))
    × (v6_scope_id a ≡ from_le_bytes w32 (slice_range bytes 24 28))
