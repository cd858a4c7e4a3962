-- Hosts that are addresses.
use Rattle.std.specs.Prelude.{◌≡◌, ℕ, ◌==◌, ◌&&◌, ◌-◌, Bool, List, [], ◌∷◌, length, slice_index, take, drop, if◌then◌else◌}
use Rattle.std.specs.declared.net.IpAddr.{IpAddr}
use Rattle.std.specs.declared.net.SocketAddr.{SocketAddr}
use Rattle.std.specs.Net.Socket.{socket_ip}
use Rattle.std.specs.Net.Grammar.{IsIpText}
use Rattle.mx_types.specs.declared.code.Code.TheVariants as codes
use Rattle.mx_names.specs.declared.answer.HostAnswer.{HostAnswer}
use Rattle.mx_names.specs.declared.answer.HostAnswer.TheVariants as answer

-- the text is in brackets (91 and 93)
abbrev pub is_bracketed : List ℕ → Bool
is_bracketed host = (slice_index host 0 == 91) && (slice_index host (length host - 1) == 93)

-- what is between the brackets, where the host is in brackets
abbrev pub unbracketed : List ℕ → List ℕ
unbracketed host = if is_bracketed host then take (length host - 2) (drop 1 host) else host

-- that one address is the answer, or that memory was refused
abbrev pub IsAddress : IpAddr → HostAnswer → Type 0
IsAddress ip (answer.Known addresses) = (a : SocketAddr) × (addresses ≡ a ∷ []) × (socket_ip a ≡ ip)
IsAddress ip (answer.Failed failed) = failed ≡ codes.OutOfMemory
IsAddress ip answer.NotYet = ⊥

-- rule name-spelled-address: A host that spells an address isn't looked up.
--
-- the one address that the text spells is the answer, or that memory was refused
abbrev pub IsSpelled : List ℕ → HostAnswer → Type 0
IsSpelled text told = (ip : IpAddr) × IsIpText text ip × IsAddress ip told
