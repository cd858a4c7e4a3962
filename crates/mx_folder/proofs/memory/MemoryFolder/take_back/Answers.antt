use Rattle.std.proofs.Common.{◌∙◌, ap}
use Rattle.mx_folder.specs.Files.{file, parts_made}
use Rattle.mx_folder.proofs.Told.{file_told, made_told}
use Rattle.mx_folder.proofs.memory.MemoryFolder.take_back.Goals as goal

pub invariant_of-self : goal.invariant_of-self
invariant_of-self c =
    let before = c.self.inside.steps in
    let part = c.bytes_of.result in
    let refused = c.replace-refused.result in
    record {
      replays = record {
        made = ap parts_made c.tell.ensures ∙ made_told part refused before ∙ c.self.invariant.replays.made;
        files = λ found name. ap (λ l. file found l name) c.tell.ensures ∙ file_told found part refused before name ∙ c.self.invariant.replays.files found name;
      };
      most = c.self.invariant.most;
    }
