mod Outs
